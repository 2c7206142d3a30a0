-- Keys: what comes out of each public function, and what must.
-- Assumes nothing.
use Rattle.std.specs.Prelude.{ℕ, drop, Bool, Option, Result, List, [], ◌∷◌}
use Rattle.key.specs.Key.{device_of, device_start, found_of, maker_of, read_key, read_of}
use Rattle.key.specs.declared.Found.{Found}
use Rattle.key.specs.declared.Read.{Read}
use Rattle.key_writer.specs.Writing.{key_room, key_wrote}
use Rattle.names.specs.Names.{marked, name_in, plain_room, plain_wrote, read_plain}
use Rattle.names.specs.Steps.{stroke_of}
use Rattle.outcomes.specs.Outcome.{Terms, terms_of}
use Rattle.refusals.specs.declared.Refusal.{Refusal}
use Rattle.rooms.specs.Rooms.{further}
use Rattle.names.specs.contracts.is_marked as is_marked_owed
use Rattle.names.specs.contracts.stroke as stroke_owed
use Rattle.names.specs.contracts.unescape as unescape_owed
use Rattle.key.specs.contracts.find as find_owed
use Rattle.key.specs.contracts.read_key as read_key_owed
use Rattle.key.specs.contracts.maker_part as maker_part_owed
use Rattle.key.specs.contracts.device_part as device_part_owed
use Rattle.key_writer.specs.contracts.write_key as write_key_owed

-- `is_marked`
abbrev pub is_marked_terms : Terms is_marked_owed.ended
is_marked_terms = terms_of
    (Bool ∷ [])
    (λ κs r _. (r, tt))
    (λ κs (b, _). (marked b, tt))

-- `stroke`
abbrev pub stroke_terms : Terms stroke_owed.ended
stroke_terms = terms_of
    (Option ℕ ∷ [])
    (λ κs r _. (r, tt))
    (λ κs (key, (from, _)). (stroke_of (read_plain (drop from key.now)) from, tt))

-- `unescape`
abbrev pub unescape_terms : Terms unescape_owed.ended
unescape_terms = terms_of
    (Result ℕ Refusal ∷ List ℕ ∷ [])
    (λ κs r (_, (room, _)). (r, (room.now, tt)))
    (λ κs (part, (room, _)). (plain_wrote (name_in part.now) room.now, (plain_room (name_in part.now) room.now, tt)))

-- `find`
abbrev pub find_terms : Terms find_owed.ended
find_terms = terms_of
    (Result Found Refusal ∷ [])
    (λ κs r _. (r, tt))
    (λ κs (key, _). (found_of (read_key key.now), tt))

-- `read_key`
abbrev pub read_key_terms : Terms read_key_owed.ended
read_key_terms = terms_of
    (Result Read Refusal ∷ [])
    (λ κs r _. (r, tt))
    (λ κs (key, _). (read_of (read_key key.now), tt))

-- `maker_part`
abbrev pub maker_part_terms : Terms maker_part_owed.ended
maker_part_terms = terms_of
    (List ℕ ∷ (ℕ × ℕ) ∷ [])
    (λ κs r _. (r.now, (r.ref_ptr, tt)))
    (λ κs (key, _). (maker_of (read_key key.now), (key.ref_ptr, tt)))

-- `device_part`
abbrev pub device_part_terms : Terms device_part_owed.ended
device_part_terms = terms_of
    (List ℕ ∷ (ℕ × ℕ) ∷ [])
    (λ κs r _. (r.now, (r.ref_ptr, tt)))
    (λ κs (key, _). (device_of (read_key key.now), (further (device_start (read_key key.now)) key.ref_ptr, tt)))

-- `write_key`
abbrev pub write_key_terms : Terms write_key_owed.ended
write_key_terms = terms_of
    (Result ℕ Refusal ∷ List ℕ ∷ [])
    (λ κs r (_, (_, (_, (_, (room, _))))). (r, (room.now, tt)))
    (λ κs (maker, (device, (date, (serial, (room, _))))). (key_wrote maker.now device.now date serial room.now, (key_room maker.now device.now date serial room.now, tt)))
