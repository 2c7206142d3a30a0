-- The pack: what comes out of each public function, and what must.
-- Assumes nothing.
use Rattle.std.specs.Prelude.{ℕ, length, Bool, List, [], ◌∷◌}
use Rattle.bus.specs.Transact.{reply_room, transact_of}
use Rattle.commands.specs.declared.Transacted.{Transacted}
use Rattle.clock.specs.Broadcast.{broadcast_room, sample_of}
use Rattle.clock.specs.Sample.{elapsed_of}
use Rattle.clock.specs.declared.Sampled.{Sampled}
use Rattle.outcomes.specs.Outcome.{Terms, terms_of}
use Rattle.pack.specs.Kept.{latest_of}
use Rattle.start.specs.SetUp.{set_up_of, zero_state}
use Rattle.pack.specs.Sound.{sound_of}
use Rattle.pack.specs.declared.Latest.{Latest}
use Rattle.pack.specs.declared.Answered.{Answered}
use Rattle.pack.specs.declared.State.{State}
use Rattle.pack.specs.contracts.sound as sound_owed
use Rattle.start.specs.contracts.zero as zero_owed
use Rattle.pack.specs.contracts.latest_of as latest_of_owed
use Rattle.start.specs.contracts.set_up as set_up_owed
use Rattle.clock.specs.contracts.elapsed as elapsed_owed
use Rattle.clock.specs.contracts.sample as sample_owed
use Rattle.bus.specs.contracts.transact as transact_owed

-- `sound`
abbrev pub sound_terms : Terms sound_owed.ended
sound_terms = terms_of
    (Bool ∷ [])
    (λ κs r _. (r, tt))
    (λ κs (s, _). (sound_of s, tt))

-- `zero`
abbrev pub zero_terms : Terms zero_owed.ended
zero_terms = terms_of
    (State ∷ [])
    (λ κs r _. (r, tt))
    (λ κs _. (zero_state, tt))

-- `latest_of`
abbrev pub latest_of_terms : Terms latest_of_owed.ended
latest_of_terms = terms_of
    (Latest ∷ [])
    (λ κs r _. (r, tt))
    (λ κs (s, _). (latest_of s, tt))

-- `set_up`
abbrev pub set_up_terms : Terms set_up_owed.ended
set_up_terms = terms_of
    (Answered State ∷ [])
    (λ κs r _. (r, tt))
    (λ κs (u, (first, _)). (set_up_of u first, tt))

-- `elapsed`
abbrev pub elapsed_terms : Terms elapsed_owed.ended
elapsed_terms = terms_of
    (ℕ ∷ [])
    (λ κs r _. (r, tt))
    (λ κs (new, (old, _)). (elapsed_of new old, tt))

-- `sample`
abbrev pub sample_terms : Terms sample_owed.ended
sample_terms = terms_of
    (Sampled ∷ List ℕ ∷ [])
    (λ κs r (_, (_, (room, _))). (r, (room.now, tt)))
    (λ κs (s, (sample, (room, _))). (sample_of s sample (length room.now), (broadcast_room s sample room.now, tt)))

-- `transact`
abbrev pub transact_terms : Terms transact_owed.ended
transact_terms = terms_of
    (Transacted State ∷ List ℕ ∷ [])
    (λ κs r (_, (_, (_, (_, (_, (room, _)))))). (r, (room.now, tt)))
    (λ κs (s, (service, (factory, (read, (bytes, (room, _)))))). (transact_of s service.now factory.now read bytes.now (length room.now), (reply_room s service.now factory.now read bytes.now room.now, tt)))
