-- The charger and its area: what comes out of each public function, and what must.
-- Assumes nothing.
use Rattle.std.specs.Prelude.{ℕ, length, Bool, List, [], ◌∷◌, ◌≡◌}
use Rattle.charger_state.specs.Charger.{current_of, sample_of, set_up_of, sound_of}
use Rattle.charger.specs.Delivered.{message_at, message_place}
use Rattle.charger.specs.Transact.{reply_room, transact_of}
use Rattle.charger_state.specs.declared.Charger.{Charger}
use Rattle.pack.specs.declared.Answered.{Answered}
use Rattle.commands.specs.declared.Transacted.{Transacted}
use Rattle.charger_area.specs.Area.{charger_area_of, is_charger_area, loaded, loaded_of, stored_of, stored_room}
use Rattle.outcomes.specs.Outcome.{Terms, terms_of}
use Rattle.charger_state.specs.contracts.set_up as charger_set_up_owed
use Rattle.charger_state.specs.contracts.sound as charger_sound_owed
use Rattle.charger_state.specs.contracts.current as charger_current_owed
use Rattle.charger_state.specs.contracts.sample as charger_sample_owed
use Rattle.charger.specs.contracts.transact as charger_transact_owed
use Rattle.charger.specs.contracts.message as charger_message_owed
use Rattle.charger_area.specs.contracts.store as charger_store_owed
use Rattle.charger_area.specs.contracts.is_area as charger_is_area_owed
use Rattle.charger_area.specs.contracts.load as charger_load_owed

-- `set_up`
abbrev pub charger_set_up_terms : Terms charger_set_up_owed.ended
charger_set_up_terms = terms_of
    (Charger ∷ [])
    (λ κs r _. (r, tt))
    (λ κs (first, _). (set_up_of first, tt))

-- `sound`
abbrev pub charger_sound_terms : Terms charger_sound_owed.ended
charger_sound_terms = terms_of
    (Bool ∷ [])
    (λ κs r _. (r, tt))
    (λ κs (s, _). (sound_of s, tt))

-- `current`
abbrev pub charger_current_terms : Terms charger_current_owed.ended
charger_current_terms = terms_of
    (ℕ ∷ [])
    (λ κs r _. (r, tt))
    (λ κs (s, _). (current_of s, tt))

-- `sample`
abbrev pub charger_sample_terms : Terms charger_sample_owed.ended
charger_sample_terms = terms_of
    (Answered Charger ∷ [])
    (λ κs r _. (r, tt))
    (λ κs (s, (sample, _)). (sample_of s sample, tt))

-- `transact`
abbrev pub charger_transact_terms : Terms charger_transact_owed.ended
charger_transact_terms = terms_of
    (Transacted Charger ∷ List ℕ ∷ [])
    (λ κs r (_, (_, (_, (room, _)))). (r, (room.now, tt)))
    (λ κs (s, (read, (bytes, (room, _)))). (transact_of s read bytes.now (length room.now), (reply_room s read bytes.now room.now, tt)))

-- `message`
abbrev pub charger_message_terms : Terms charger_message_owed.ended
charger_message_terms = terms_of
    (List ℕ ∷ (ℕ × ℕ) ∷ [])
    (λ κs r _. (r.now, (r.ref_ptr, tt)))
    (λ κs (plain, (broadcast, (at, _))). (message_at plain broadcast.now at, (message_place plain broadcast.now at broadcast.ref_ptr, tt)))

-- `store`
abbrev pub charger_store_terms : Terms charger_store_owed.ended
charger_store_terms = record {
  Outcome = ℕ ∷ List ℕ ∷ [];
  comes = λ κs r (_, (room, _)). (r, (room.now, tt));
  must = λ κs (s, (room, _)). (stored_of room.now, (stored_room s room.now, tt));
  adds = λ κs (s, (_, _)) r (_, (room, _)). (r ≡ 0 → loaded_of room.now ≡ loaded s) ∷ [];
}

-- `is_area`
abbrev pub charger_is_area_terms : Terms charger_is_area_owed.ended
charger_is_area_terms = terms_of
    (Bool ∷ [])
    (λ κs r _. (r, tt))
    (λ κs (area, _). (is_charger_area area.now, tt))

-- `load`
abbrev pub charger_load_terms : Terms charger_load_owed.ended
charger_load_terms = record {
  Outcome = Answered Charger ∷ [];
  comes = λ κs r _. (r, tt);
  must = λ κs (area, _). (loaded_of area.now, tt);
  adds = λ κs (area, _) r _. (r.answer ≡ 0 → charger_area_of r.state ≡ area.now) ∷ [];
}
