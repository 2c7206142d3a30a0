-- Pack keys, in the words of document 01, "Key": what a key is, and how bytes are read. Assumes nothing: these are definitions.
use Rattle.std.specs.Prelude.{◌≡◌, Bool, cond, ◌&&◌, ◌||◌, List, [], ◌∷◌, ◌++◌, ℕ, ◌+◌, ◌*◌, ◌-◌, ◌/◌, ◌%◌, ◌≤◌, ◌<◌, eqb, ltb, leb, length, get_or, drop, Some, None, Result, Ok, Err}
use Rattle.std.specs.Prelude as code
use Rattle.std.proofs.Math.Option.{Option, none, some}
use Rattle.refusals.specs.declared.Refusal.{Refusal}
use Rattle.refusals.specs.declared.Refusal.TheVariants.{NotAKey}
use Rattle.names.specs.Names.{escape, Name, bad, ended, stopped, read_plain}
use Rattle.key.specs.declared.Found.{Found}
use Rattle.key.specs.declared.Read.{Read}

-- ---- what a key is

-- the lower-case hexadecimal digit of a number below 16: `0` to `9`, `a` to `f` (RULES 11.2)
abbrev pub hex_digit : ℕ → ℕ
hex_digit n = cond (ltb n 10) (0x30 + n) (0x57 + n)

-- a word as four digits, the highest first (RULES 11.2)
unfoldable pub hex_word : ℕ → List ℕ
hex_word w = hex_digit (w / 4096) ∷ hex_digit (w / 256 % 16) ∷ hex_digit (w / 16 % 16) ∷ hex_digit (w % 16) ∷ []

-- the key of four parts: both names escaped, then date and serial, joined by 2F (RULES 11.1)
unfoldable pub key_of : List ℕ → List ℕ → ℕ → ℕ → List ℕ
key_of maker device date serial = escape maker ++ (0x2F ∷ (escape device ++ (0x2F ∷ (hex_word date ++ (0x2F ∷ hex_word serial)))))

-- the four parts of a pack
pub record Parts : Type 0 where
  pub maker : List ℕ
  pub device : List ℕ
  pub date : ℕ
  pub serial : ℕ

-- the parts that a key can have: names of up to 32 bytes, and words (RULES 11.2)
pub record PartsFit (p : Parts) : Type 0 where
  pub maker_fits : length p.maker ≤ 32
  pub device_fits : length p.device ≤ 32
  pub date_fits : p.date < 65536
  pub serial_fits : p.serial < 65536

abbrev pub key_of_parts : Parts → List ℕ
key_of_parts p = key_of p.maker p.device p.date p.serial

-- bytes are a key exactly when the writer gives them for some four parts (RULES 11.4)
pub record IsKey (bytes : List ℕ) : Type 0 where
  pub parts : Parts
  pub fit : PartsFit parts
  pub given : bytes ≡ key_of_parts parts

-- the date as a word (002, ManufactureDate): the year from 1980 on, the month and the day (RULES 6.26)
abbrev pub date_word : ℕ → ℕ → ℕ → ℕ
date_word year month day = (year - 1980) * 512 + month * 32 + day

-- ---- reading

-- a lower-case hexadecimal digit
abbrev pub is_digit : ℕ → Bool
is_digit c = (leb 0x30 c && leb c 0x39) || (leb 0x61 c && leb c 0x66)

-- the number that a digit stands for
abbrev pub digit_value : ℕ → ℕ
digit_value c = cond (leb c 0x39) (c - 0x30) (c - 0x57)

-- the number that a byte stands for, where it is a digit
abbrev pub digit_of : ℕ → code.Option ℕ
digit_of c = cond (is_digit c) (Some (digit_value c)) None

-- the bytes begin with four digits
unfoldable pub is_word : List ℕ → Bool
is_word s = is_digit (get_or s 0 0) && is_digit (get_or s 1 0) && is_digit (get_or s 2 0) && is_digit (get_or s 3 0)

-- the number that four digits stand for
unfoldable pub digits_word : List ℕ → ℕ
digits_word s = digit_value (get_or s 0 0) * 4096 + digit_value (get_or s 1 0) * 256 + digit_value (get_or s 2 0) * 16 + digit_value (get_or s 3 0)

-- the word that the bytes begin with, where they begin with four digits
unfoldable pub word_of : List ℕ → code.Option ℕ
word_of s = cond (is_word s) (Some (digits_word s)) None

-- what follows the names: four digits, 2F, four digits, and no byte more
unfoldable pub is_words : List ℕ → Bool
is_words s = eqb (length s) 9 && is_word s && eqb (get_or s 4 0) 0x2F && is_word (drop 5 s)

-- both words, where only they follow the names
unfoldable pub words_of : List ℕ → code.Option Read
words_of s = cond (is_words s) (Some (record { date = digits_word s; serial = digits_word (drop 5 s) })) None

-- after the device name, which has up to 32 bytes, come the words (RULES 11.2)
abbrev pub after_device : List ℕ → Name → Option Parts
after_device maker bad = none
after_device maker (ended device) = none
after_device maker (stopped device rest) =
    cond (leb (length device) 32 && is_words rest) (some (record { maker = maker; device = device; date = digits_word rest; serial = digits_word (drop 5 rest) })) none

-- after the maker, which has up to 32 bytes, comes the device name (RULES 11.2)
abbrev pub after_maker : Name → Option Parts
after_maker bad = none
after_maker (ended maker) = none
after_maker (stopped maker rest) = cond (leb (length maker) 32) (after_device maker (read_plain rest)) none

-- the four parts that bytes are read as, or none where they aren't a key (RULES 11.4)
unfoldable pub read_key : List ℕ → Option Parts
read_key bytes = after_maker (read_plain bytes)

-- what the reader answers: the two words; bytes that aren't a key are refused (RULES 1.13)
abbrev pub read_of : Option Parts → Result Read Refusal
read_of none = Err NotAKey
read_of (some p) = Ok (record { date = p.date; serial = p.serial })

-- the same, and where both names stand: the maker from the first byte on, the device name past the maker's 2F (RULES 11.5)
abbrev pub found_of : Option Parts → Result Found Refusal
found_of none = Err NotAKey
found_of (some p) =
    Ok (record {
      maker_end = length (escape p.maker);
      device_start = length (escape p.maker) + 1;
      device_end = length (escape p.maker) + 1 + length (escape p.device);
      date = p.date;
      serial = p.serial;
    })

-- each name, still escaped; of bytes that aren't a key a part of no bytes (RULES 11.5)
abbrev pub maker_of : Option Parts → List ℕ
maker_of none = []
maker_of (some p) = escape p.maker

abbrev pub device_of : Option Parts → List ℕ
device_of none = []
device_of (some p) = escape p.device

-- how many bytes past the key's first, where the maker starts, the device name starts: past the maker and its 2F; of bytes that aren't a key at the first
abbrev pub device_start : Option Parts → ℕ
device_start none = 0
device_start (some p) = length (escape p.maker) + 1
