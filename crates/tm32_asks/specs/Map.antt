-- Document 01, "The chip on the bench" and "The ten commands": where the memory lies, and which ranges a command may name.
use Rattle.std.specs.Prelude.{ℕ, ◌*◌, Bool, ◌||◌}
use Rattle.memory.specs.Ranges.{within}

-- How long a page of the flash is, and how many there are. Every other definition takes the count from here, and the code's own is proved equal to it.
abbrev pub page_size : ℕ
page_size = 1024

abbrev pub page_count : ℕ
page_count = 48

-- The user flash.
abbrev pub flash_start : ℕ
flash_start = 0x08000000

abbrev pub flash_length : ℕ
flash_length = page_count * page_size

-- The user RAM: what the boot loader does not keep for itself.
abbrev pub ram_start : ℕ
ram_start = 0x20001C00

abbrev pub ram_length : ℕ
ram_length = 9216

-- NVR1 to NVR6, six of 1,024 bytes, as one stretch.
abbrev pub nvr_start : ℕ
nvr_start = 0x1FFF0000

abbrev pub nvr_length : ℕ
nvr_length = 6144

-- NVR5 and NVR6, the user's own.
abbrev pub user_nvr_start : ℕ
user_nvr_start = 0x1FFF1000

abbrev pub user_nvr_length : ℕ
user_nvr_length = 2048

-- The option bytes: the first 22 of NVR3.
abbrev pub options_start : ℕ
options_start = 0x1FFF0800

abbrev pub options_length : ℕ
options_length = 22

-- An erased byte of the flash.
abbrev pub blank : ℕ
blank = 0xFF

-- Whether so many bytes from an address on all lie in the region that the name says; the last: all in flash or all in RAM.
abbrev pub in_flash : ℕ → ℕ → Bool
in_flash address count = within flash_start flash_length address count

abbrev pub in_ram : ℕ → ℕ → Bool
in_ram address count = within ram_start ram_length address count

abbrev pub in_nvr : ℕ → ℕ → Bool
in_nvr address count = within nvr_start nvr_length address count

abbrev pub in_user_nvr : ℕ → ℕ → Bool
in_user_nvr address count = within user_nvr_start user_nvr_length address count

abbrev pub in_flash_or_ram : ℕ → ℕ → Bool
in_flash_or_ram address count = in_flash address count || in_ram address count

-- The ranges that Read may name. Whether they are protected is asked later.
unfoldable pub in_read_region : ℕ → ℕ → Bool
in_read_region address count = in_flash_or_ram address count || in_nvr address count

-- The ranges that Write and Memory CRC may name.
unfoldable pub in_user_region : ℕ → ℕ → Bool
in_user_region address count = in_flash_or_ram address count || in_user_nvr address count

-- Where Go may jump: a stack pointer and a reset vector must fit in flash or RAM from there on. What they are does not matter.
abbrev pub in_go_region : ℕ → Bool
in_go_region address = in_flash_or_ram address 8
