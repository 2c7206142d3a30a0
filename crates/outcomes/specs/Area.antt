-- The area: what comes out of each public function, and what must.
-- Assumes nothing.
use Rattle.std.specs.Prelude.{ℕ, Bool, List, [], ◌∷◌, ◌≡◌}
use Rattle.area.specs.Area.{area_of, is_area, loaded, loaded_of, stored_of, stored_room}
use Rattle.pack.specs.declared.Answered.{Answered}
use Rattle.pack.specs.declared.State.{State}
use Rattle.outcomes.specs.Outcome.{Terms, terms_of}
use Rattle.area.specs.contracts.store as store_owed
use Rattle.area.specs.contracts.is_area as is_area_owed
use Rattle.area.specs.contracts.load as load_owed

-- `store`
abbrev pub store_terms : Terms store_owed.ended
store_terms = record {
  Outcome = ℕ ∷ List ℕ ∷ [];
  comes = λ κs r (_, (room, _)). (r, (room.now, tt));
  must = λ κs (s, (room, _)). (stored_of s room.now, (stored_room s room.now, tt));
  adds = λ κs (s, (_, _)) r (_, (room, _)). (r ≡ 0 → loaded_of room.now ≡ loaded s) ∷ [];
}

-- `is_area`
abbrev pub is_area_terms : Terms is_area_owed.ended
is_area_terms = terms_of
    (Bool ∷ [])
    (λ κs r _. (r, tt))
    (λ κs (area, _). (is_area area.now, tt))

-- `load`
abbrev pub load_terms : Terms load_owed.ended
load_terms = record {
  Outcome = Answered State ∷ [];
  comes = λ κs r _. (r, tt);
  must = λ κs (area, _). (loaded_of area.now, tt);
  adds = λ κs (area, _) r _. (r.answer ≡ 0 → area_of r.state ≡ area.now) ∷ [];
}
