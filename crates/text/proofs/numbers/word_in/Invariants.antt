-- The loop of `text::numbers::word_in`: reading on behind the number so far brings what reading all does, and so many digits keep it below so many powers of 16.
use Rattle.std.proofs.Common.{◌≡◌, ◌^◌, ◌<◌, drop}
use Rattle.text.specs.Numbers.{word_from}
use Rattle.text.proofs.numbers.word_in.Given as goal

abbrev pub invariant-loop-character : goal.invariant-loop-character
invariant-loop-character l = (l.number < 16 ^ l.character-index) × (word_from l.number (drop l.character-index l.digits) ≡ word_from 0 l.digits)
