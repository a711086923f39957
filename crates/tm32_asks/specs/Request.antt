-- Document 01, "A message and its reply" and "The ten commands": what a Talking device reads in a message.
use Rattle.std.specs.Prelude.{ℕ, ◌-◌, cond, List, eqb, ltb, length, get_or, Result, Ok, Err}
use Rattle.frame.specs.Frame.{data_of, reading, word_at}
use Rattle.frame.specs.declared.Sound.{Sound}
use Rattle.frame.specs.declared.Spoiled.{Spoiled}
use Rattle.tm32_asks.specs.Map.{options_length}
use Rattle.tm32_asks.specs.Numbers.{long_at}
use Rattle.tm32_asks.specs.Results.{work_done, wrong_shape}
use Rattle.tm32_asks.specs.declared.Request.{Request}
use Rattle.tm32_asks.specs.declared.Request.TheVariants.{Pps, Get, Read, Write, MemoryCrc, Erase, Go, WriteOptions, ReadOptions, HeartBeat, Misshapen}

-- A request whose data must be just so long.
unfoldable pub exactly : ℕ → List ℕ → Request → Request
exactly count payload request = cond (eqb (length payload) count) request Misshapen

-- Write: a readback flag of 0 or 1, an address, and all the rest are bytes to write, however many.
unfoldable pub write_in : List ℕ → Request
write_in payload =
    cond (ltb (length payload) 5) Misshapen
    (cond (ltb 1 (get_or payload 0 0)) Misshapen
    (Write (get_or payload 0 0) (long_at payload 1) (length payload - 5)))

-- The ten commands, and the data that each takes.
unfoldable pub request_of : ℕ → List ℕ → Request
request_of command payload =
    cond (eqb command 0x00) (exactly 1 payload (Pps (get_or payload 0 0)))
    (cond (eqb command 0x01) (exactly 0 payload Get)
    (cond (eqb command 0x11) (exactly 6 payload (Read (long_at payload 0) (word_at payload 4)))
    (cond (eqb command 0x12) (write_in payload)
    (cond (eqb command 0x13) (exactly 10 payload (MemoryCrc (long_at payload 0) (long_at payload 4) (word_at payload 8)))
    (cond (eqb command 0x14) (exactly 4 payload (Erase (word_at payload 0) (word_at payload 2)))
    (cond (eqb command 0x21) (exactly 4 payload (Go (long_at payload 0)))
    (cond (eqb command 0x31) (exactly options_length payload WriteOptions)
    (cond (eqb command 0x32) (exactly 0 payload ReadOptions)
    (cond (eqb command 0x41) (exactly 0 payload HeartBeat)
    Misshapen)))))))))

-- What the reader of frames answers, in 01's numbers: a spoiled frame is of the wrong shape, wherever it is spoiled; a sound one passes, and its command and data are looked at.
unfoldable pub reading_result : Result Sound Spoiled → ℕ
reading_result (Ok sound) = work_done
reading_result (Err spoiled) = wrong_shape

-- What a message asks for, where a CRC starts from a value: where its frame passes, what its second byte, the command, asks for with the data.
unfoldable pub request_in : ℕ → List ℕ → Request
request_in start message = cond (eqb (reading_result (reading start message)) work_done) (request_of (get_or message 1 0) (data_of message)) Misshapen
