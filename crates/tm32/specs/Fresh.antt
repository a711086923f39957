-- Document 01, "The bench tape": the device that a tape starts on, and its settings.
use Rattle.std.specs.Prelude.{ℕ, ◌+◌, ◌-◌, List, [], ◌∷◌, ◌++◌, replicate}
use Rattle.frame.specs.Frame.{word}
use Rattle.memory.specs.Stores.{replaced}
use Rattle.tm32.specs.Device.{Device, device_of, memory_of, start}
use Rattle.tm32_asks.specs.Map.{blank, flash_length, nvr_length, nvr_start, options_start, ram_length}
use Rattle.tm32.specs.Work.{uart1, uart2, uart3, spi1, spi2, i2c1, i2c2}
use Rattle.tm32_asks.specs.declared.Link.TheVariants.{Uart}
use Rattle.tm32.specs.declared.Settings.{Settings}

-- The option bytes, halfword by halfword: read protection off, and four ranges that start above their end and so protect nothing.
unfoldable pub fresh_options : List ℕ
fresh_options =
    word 0x00AA ++ word 0
    ++ word 0x00FF ++ word 0 ++ word 0x00FF ++ word 0
    ++ word 0x00FF ++ word 0 ++ word 0x00FF ++ word 0
    ++ word 0

-- The flash is blank; RAM and NVR are nought, but for the option bytes.
unfoldable pub fresh_flash : List ℕ
fresh_flash = replicate flash_length blank

unfoldable pub fresh_ram : List ℕ
fresh_ram = replicate ram_length 0

unfoldable pub fresh_nvr : List ℕ
fresh_nvr = replaced (replicate nvr_length 0) (options_start - nvr_start) fresh_options

-- Started on UART.
unfoldable pub fresh_device : Device
fresh_device = device_of (start Uart) (memory_of fresh_flash fresh_ram fresh_nvr)

-- Version bytes 00 01, all seven links, and nought else.
unfoldable pub fresh_settings : Settings
fresh_settings = record { version = 0x00 ∷ 0x01 ∷ []; serial = replicate 12 0; «package» = 0; model = 0; links = uart1 + uart2 + uart3 + spi1 + spi2 + i2c1 + i2c2; start = 0 }

-- Settings with another start value.
abbrev pub with_start : Settings → ℕ → Settings
with_start settings start =
    record { version = settings.version; serial = settings.serial; «package» = settings.«package»; model = settings.model; links = settings.links; start = start }
