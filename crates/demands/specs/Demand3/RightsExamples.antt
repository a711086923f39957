-- Document 01, "Who may touch which page", for demand 3: what the theorem of `Demand3` is about, worked out by the checker on devices with a full flash. The frames of the replies were worked out
-- apart from the definitions under trial.
use Rattle.std.specs.Prelude.{ℕ, ◌+◌, ◌-◌, ◌≤◌, ◌<◌, true, false, ◌||◌, List, [], ◌∷◌, ◌++◌, ◌≡◌, refl, get_or, length, replicate}
use Rattle.std.proofs.Math.Bool.{or_self}
use Rattle.std.proofs.Common.{true≢false, sym, ap, ◌∙◌, arith, length-append, get_or-append-add}
use Rattle.std.proofs.Math.Decide.{dec_lt}
use Rattle.std.proofs.Math.ListN.{get_or-append}
use Rattle.std.proofs.lemmas.List.{get_or-replicate, length-replicate}
use Rattle.frame.specs.Crc.{bit_done, bits_done, byte_done, crc, polynomial, shifted}
use Rattle.frame.specs.Frame.{covered, data_of, frame, reading, word, word_at}
use Rattle.memory.specs.Erases.{erased_pages}
use Rattle.memory.specs.Pages.{covers, some_from, some_page, touched}
use Rattle.memory.specs.Ranges.{within}
use Rattle.memory.specs.Stores.{kept, masked, part, replaced, same}
use Rattle.memory.proofs.Laws.{covers_known, in_region}
use Rattle.shape.specs.Shape.{none_of, others, tells, without}
use Rattle.tm32.specs.After.{Told, call_checks, no_reply, replied, tell}
use Rattle.tm32_asks.specs.Checks.{checks, flash_pages, protections, read_checks, verdict, write_checks}
use Rattle.tm32.specs.Device.{bytes_at}
use Rattle.tm32.specs.Fresh.{fresh_settings}
use Rattle.tm32_asks.specs.Map.{in_read_region, in_user_region, options_length, page_count}
use Rattle.tm32_asks.specs.Numbers.{from_one_to, long_at}
use Rattle.tm32.specs.OptionMessages.{is_talking, option_message, reads_options, touches_options}
use Rattle.tm32_asks.specs.Options.{ProtectAll, in_either, option_bytes, rdp_on}
use Rattle.tm32_asks.specs.Request.{exactly, reading_result, request_in, request_of, write_in}
use Rattle.tm32.specs.Respond.{refuse, reply_to, respond, serve, verdict_on}
use Rattle.tm32.specs.Run.{run}
use Rattle.tm32.specs.Work.{erased, programmed_result, readback, work, written}
use Rattle.tm32.specs.declared.State.TheVariants.{Talking}
use Rattle.cases.specs.Cases.{full_device, on_bench, pcrop5, rdp, wrp7}
use Rattle.cases.specs.Wire.{ask_erase, ask_read, ask_read_options, ask_write, done, first, halfwords, heart_beat, hex, little, message, no_pages, off, options}
use Rattle.demands.specs.BenchTape.Shown.{sent_all}
use Rattle.demands.specs.Demand1.Refusals.{is_one_of}
use Rattle.demands.specs.Demand3.TwoDevices.{Agree, AlikeButOptions, happens, holds_option, is_protection_refusal, permitted_by, option_event, spares_options}

-- What the callers of two devices are told of some messages: that of the stricter; that of the looser, were all of them sent to it; and that of the looser, where those are left out that the
-- stricter refuses for protection.
pub record Comparison : Type 0 where
  pub strict : List Told
  pub loose : List Told
  pub left : List Told

-- The three put together.
abbrev pub comparison : List Told → List Told → List Told → Comparison
comparison strict loose left = record { strict = strict; loose = loose; left = left }

-- The comparison of two devices with a full flash, by their option bytes.
unfoldable pub comparing : List ℕ → List ℕ → List (List ℕ) → Comparison
comparing strict loose messages =
    comparison
    (run fresh_settings (full_device strict) (sent_all messages)).told
    (run fresh_settings (full_device loose) (sent_all messages)).told
    (run fresh_settings (full_device loose) (permitted_by fresh_settings (full_device strict) (sent_all messages))).told

-- The reply that a caller is told first, if any.
abbrev pub first_reply : List Told → List ℕ
first_reply [] = []
first_reply (replied bytes ∷ rest) = bytes
first_reply (no_reply number ∷ rest) = []

-- Option bytes with page 5 under PCROP and read protection on.
abbrev pub rdp_pcrop5 : List ℕ
rdp_pcrop5 = options 0x00 (first 5) no_pages

-- A Read of the flash, a write to RAM, and a Read of that.
unfoldable pub look_and_store : List (List ℕ)
look_and_store = ask_read 0x08000400 1 ∷ ask_write 1 0x20001C00 (0x77 ∷ []) ∷ ask_read 0x20001C00 1 ∷ []

-- An Erase of page 7, and a Read of its first byte.
unfoldable pub erase_and_look : List (List ℕ)
erase_and_look = ask_erase 7 1 ∷ ask_read 0x08001C00 1 ∷ []

-- A Read of page 5, and a heart beat.
unfoldable pub look_and_beat : List (List ℕ)
look_and_beat = ask_read 0x08001400 1 ∷ heart_beat ∷ []

-- Read protection in the stricter alone: it refuses a Read that the looser serves, and what comes behind is answered alike.
-- Write protection in the stricter alone: it refuses an Erase that the looser would do. The looser that does not get it answers the Read as the stricter does, and one that got it would not.
-- PCROP in both, and read protection in the stricter alone: the numbers of the two would differ, and the message is left out.
pub three_compared :
    comparing rdp off look_and_store ∷ comparing wrp7 off erase_and_look ∷ comparing rdp_pcrop5 pcrop5 look_and_beat ∷ []
    ≡ comparison
    (replied (hex 6 0x2D620000C3FB) ∷ replied done ∷ replied (hex 7 0x2D9001007711D6) ∷ [])
    (replied (hex 7 0x2D9001000F8E29) ∷ replied done ∷ replied (hex 7 0x2D9001007711D6) ∷ [])
    (replied done ∷ replied (hex 7 0x2D9001007711D6) ∷ [])
    ∷ comparison
    (replied (hex 6 0x2D61000093A2) ∷ replied (hex 7 0x2D9001005ADE23) ∷ [])
    (replied done ∷ replied (hex 7 0x2D900100FF91C6) ∷ [])
    (replied (hex 7 0x2D9001005ADE23) ∷ [])
    ∷ comparison
    (replied (hex 6 0x2D620000C3FB) ∷ replied done ∷ [])
    (replied (hex 6 0x2D630000F3CC) ∷ replied done ∷ [])
    (replied done ∷ [])
    ∷ []
unfolding comparing look_and_store erase_and_look look_and_beat sent_all run tell call_checks without happens tells is_protection_refusal is_one_of hex little message halfwords options respond serve reply_to verdict_on refuse frame covered word crc byte_done bits_done bit_done shifted polynomial reading word_at data_of request_in reading_result request_of exactly write_in long_at from_one_to checks protections read_checks write_checks flash_pages verdict within in_read_region in_user_region touched some_page some_from in_either covers option_bytes part rdp_on work bytes_at written readback programmed_result replaced kept masked same erased erased_pages fresh_settings
three_compared = refl

-- None of these messages reads or writes the option bytes, and Read options does.
pub which_spare_the_options :
    spares_options fresh_settings (full_device rdp) (sent_all look_and_store)
    ∷ spares_options fresh_settings (full_device wrp7) (sent_all erase_and_look)
    ∷ spares_options fresh_settings (full_device rdp_pcrop5) (sent_all look_and_beat)
    ∷ spares_options fresh_settings (full_device rdp) (sent_all (ask_read_options ∷ []))
    ∷ []
    ≡ true ∷ true ∷ true ∷ false ∷ []
unfolding none_of option_event option_message is_talking touches_options reads_options comparing look_and_store erase_and_look look_and_beat sent_all run tell call_checks without happens tells is_protection_refusal is_one_of hex little message halfwords options respond serve reply_to verdict_on refuse frame covered word crc byte_done bits_done bit_done shifted polynomial reading word_at data_of request_in reading_result request_of exactly write_in long_at from_one_to checks protections read_checks write_checks flash_pages verdict within in_read_region in_user_region touched some_page some_from in_either covers option_bytes part rdp_on work bytes_at written readback programmed_result replaced kept masked same erased erased_pages fresh_settings
which_spare_the_options = refl

-- ---- the pairs are those of which the theorem speaks

-- devices on the bench with any option bytes are alike in all else
module _ (flash one other : List ℕ) (sized : length one ≡ options_length) (other_sized : length other ≡ options_length) where
  -- a byte of the NVR before its option bytes, and behind them
  byte_before : (options : List ℕ) → length options ≡ options_length → (place : ℕ) → place < 2048 → get_or (replicate 2048 0 ++ options ++ replicate 4074 0) place 0 ≡ 0
  byte_before options long place before =
      let front = length-replicate {A = ℕ} 2048 0 in
      let both = length-append (replicate 2048 0) options in
      get_or-append (replicate 2048 0 ++ options) (replicate 4074 0) 0 place (omega arith)
      ∙ get_or-append (replicate 2048 0) options 0 place (omega arith)
      ∙ get_or-replicate 2048 place 0 0 before

  byte_behind : (options : List ℕ) → length options ≡ options_length → (place : ℕ) → 2070 ≤ place
      → get_or (replicate 2048 0 ++ options ++ replicate 4074 0) place 0 ≡ get_or (replicate 4074 0) (place - 2070) 0
  byte_behind options long place behind =
      let front = length-replicate {A = ℕ} 2048 0 in
      let both = length-append (replicate 2048 0) options in
      let there : length (replicate 2048 0 ++ options) + (place - 2070) ≡ place = omega arith in
      rw there at (get_or-append-add (replicate 2048 0 ++ options) (replicate 4074 0) (place - 2070) 0)

  -- by the side of the option bytes
  by_side : (place : ℕ) → holds_option place ≡ false → Dec (place < 2048) → Dec (place < 2070)
      → get_or (replicate 2048 0 ++ one ++ replicate 4074 0) place 0 ≡ get_or (replicate 2048 0 ++ other ++ replicate 4074 0) place 0
  by_side place free (yes before) end = byte_before one sized place before ∙ sym (byte_before other other_sized place before)
  by_side place free (no start) (yes before) = absurd (true≢false (sym (in_region 2048 options_length place 1 (omega arith) (omega arith)) ∙ free))
  by_side place free (no start) (no end) = byte_behind one sized place (omega arith) ∙ sym (byte_behind other other_sized place (omega arith))

  alike_so : AlikeButOptions (on_bench Talking flash one) (on_bench Talking flash other)
  alike_so =
      record {
        session = refl;
        flash = refl;
        ram = refl;
        nvr_length = simp (length-append, sized, other_sized);
        nvr = λ place free. by_side place free (dec_lt place 2048) (dec_lt place 2070);
      }

-- a range of page numbers that starts above its end protects nothing
nothing_covered : (page : ℕ) → covers page_count 0xFF 0 page ≡ true → ⊥
nothing_covered page is =
    let ends = covers_known page_count 0xFF 0 page is in
    omega arith

-- so where nothing is protected, everything protects all that is
nothing_under : (page : ℕ) {P : Type 0} → (covers page_count 0xFF 0 page || covers page_count 0xFF 0 page) ≡ true → P
nothing_under page is = absurd (nothing_covered page (sym (or_self (covers page_count 0xFF 0 page)) ∙ is))

rdp_protects : ProtectAll (option_bytes (full_device rdp).memory.nvr) (option_bytes (full_device off).memory.nvr)
unfolding option_bytes part options halfwords little rdp_on in_either
rdp_protects = record { rdp = λ is. refl; pcrop = λ page is. is; wrp = λ page is. is }

wrp_protects : ProtectAll (option_bytes (full_device wrp7).memory.nvr) (option_bytes (full_device off).memory.nvr)
unfolding option_bytes part options halfwords little rdp_on in_either
wrp_protects = record { rdp = λ is. is; pcrop = λ page is. is; wrp = λ page is. nothing_under page is }

pcrop_protects : ProtectAll (option_bytes (full_device rdp_pcrop5).memory.nvr) (option_bytes (full_device pcrop5).memory.nvr)
unfolding option_bytes part options halfwords little rdp_on in_either
pcrop_protects = record { rdp = λ is. refl; pcrop = λ page is. is; wrp = λ page is. is }

-- ---- what a message of the class that stands apart does

-- Read options tells the option bytes, in which the two devices differ: the conclusion fails.
pub apart_alters : Agree (run fresh_settings (full_device rdp) (sent_all (ask_read_options ∷ []))) (run fresh_settings (full_device off) (permitted_by fresh_settings (full_device rdp) (sent_all (ask_read_options ∷ [])))) → ⊥
unfolding others comparing look_and_store erase_and_look look_and_beat sent_all run tell call_checks without happens tells is_protection_refusal is_one_of hex little message halfwords options respond serve reply_to verdict_on refuse frame covered word crc byte_done bits_done bit_done shifted polynomial reading word_at data_of request_in reading_result request_of exactly write_in long_at from_one_to checks protections read_checks write_checks flash_pages verdict within in_read_region in_user_region touched some_page some_from in_either covers option_bytes part rdp_on work bytes_at written readback programmed_result replaced kept masked same erased erased_pages fresh_settings
apart_alters agree =
    let rdp_byte : ◌≡◌ {A = ℕ} 0x00 0xAA = ap (λ (told : List Told). get_or (first_reply told) 4 0) agree.told in
    omega arith
