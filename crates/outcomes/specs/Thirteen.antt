-- The thirteen-cell pack and its area: what comes out of each public function, and what must.
-- Assumes nothing.
use Rattle.std.specs.Prelude.{ℕ, length, Bool, List, [], ◌∷◌, ◌≡◌}
use Rattle.outcomes.specs.Outcome.{Terms, terms_of}
use Rattle.thirteen.specs.Transact.{reply_room, transact_of}
use Rattle.commands.specs.declared.Transacted.{Transacted}
use Rattle.thirteen_area.specs.Area.{is_thirteen_area, loaded, loaded_of, stored_of, stored_room, thirteen_area_of}
use Rattle.pack.specs.declared.Answered.{Answered}
use Rattle.thirteen_pack.specs.Sample.{sample_of}
use Rattle.thirteen_pack.specs.SetUp.{set_up_of, zero_state}
use Rattle.thirteen_pack.specs.Sound.{sound_of}
use Rattle.thirteen_pack.specs.declared.ThirteenState.{ThirteenState}
use Rattle.thirteen_pack.specs.contracts.sound as thirteen_sound_owed
use Rattle.thirteen_pack.specs.contracts.zero as thirteen_zero_owed
use Rattle.thirteen_pack.specs.contracts.set_up as thirteen_set_up_owed
use Rattle.thirteen_pack.specs.contracts.sample as thirteen_sample_owed
use Rattle.thirteen.specs.contracts.transact as thirteen_transact_owed
use Rattle.thirteen_area.specs.contracts.store as thirteen_store_owed
use Rattle.thirteen_area.specs.contracts.is_area as thirteen_is_area_owed
use Rattle.thirteen_area.specs.contracts.load as thirteen_load_owed

-- `sound`
abbrev pub thirteen_sound_terms : Terms thirteen_sound_owed.ended
thirteen_sound_terms = terms_of
    (Bool ∷ [])
    (λ κs r _. (r, tt))
    (λ κs (s, _). (sound_of s, tt))

-- `zero`
abbrev pub thirteen_zero_terms : Terms thirteen_zero_owed.ended
thirteen_zero_terms = terms_of
    (ThirteenState ∷ [])
    (λ κs r _. (r, tt))
    (λ κs _. (zero_state, tt))

-- `set_up`
abbrev pub thirteen_set_up_terms : Terms thirteen_set_up_owed.ended
thirteen_set_up_terms = terms_of
    (Answered ThirteenState ∷ [])
    (λ κs r _. (r, tt))
    (λ κs (u, (health, (first, (cells, _)))). (set_up_of u health first cells, tt))

-- `sample`
abbrev pub thirteen_sample_terms : Terms thirteen_sample_owed.ended
thirteen_sample_terms = terms_of
    (Answered ThirteenState ∷ [])
    (λ κs r _. (r, tt))
    (λ κs (s, (x, (cells, _))). (sample_of s x cells, tt))

-- `transact`
abbrev pub thirteen_transact_terms : Terms thirteen_transact_owed.ended
thirteen_transact_terms = terms_of
    (Transacted ThirteenState ∷ List ℕ ∷ [])
    (λ κs r (_, (_, (_, (room, _)))). (r, (room.now, tt)))
    (λ κs (s, (read, (bytes, (room, _)))). (transact_of s read bytes.now (length room.now), (reply_room s read bytes.now room.now, tt)))

-- `store`
abbrev pub thirteen_store_terms : Terms thirteen_store_owed.ended
thirteen_store_terms = record {
  Outcome = ℕ ∷ List ℕ ∷ [];
  comes = λ κs r (_, (room, _)). (r, (room.now, tt));
  must = λ κs (s, (room, _)). (stored_of s room.now, (stored_room s room.now, tt));
  adds = λ κs (s, (_, _)) r (_, (room, _)). (r ≡ 0 → loaded_of room.now ≡ loaded s) ∷ [];
}

-- `is_area`
abbrev pub thirteen_is_area_terms : Terms thirteen_is_area_owed.ended
thirteen_is_area_terms = terms_of
    (Bool ∷ [])
    (λ κs r _. (r, tt))
    (λ κs (area, _). (is_thirteen_area area.now, tt))

-- `load`
abbrev pub thirteen_load_terms : Terms thirteen_load_owed.ended
thirteen_load_terms = record {
  Outcome = Answered ThirteenState ∷ [];
  comes = λ κs r _. (r, tt);
  must = λ κs (area, _). (loaded_of area.now, tt);
  adds = λ κs (area, _) r _. (r.answer ≡ 0 → thirteen_area_of r.state ≡ area.now) ∷ [];
}
