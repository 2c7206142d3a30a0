-- What the rules leave of a hot pack: its charger words undo its alarm, and at rest they ask for current.
-- Assumes nothing.
use mathlib.Core.Bool.{Bool, true, false, cond}
use mathlib.Core.Path.{◌≡◌, refl, ap}
use Rattle.alarms.specs.Alarms.{charging_current}
use Rattle.broadcasts.specs.Broadcasts.{charger_goes}
use Rattle.charger_state.specs.Charger.{alarm_inhibited, sampled_of as charger_sampled_of}
use Rattle.charger_written.specs.Written.{charger_written}
use Rattle.charger_state.specs.declared.Charger.{Charger}
use Rattle.clock.specs.Sample.{moved_of}
use Rattle.joined.proofs.Delivered.{broadcast_taken}
use Rattle.joined.proofs.Steps.{tick_charger}
use Rattle.joined.specs.Promises.{WordsUndoAlarm, RestAsksForCurrent}
use Rattle.pack.specs.declared.Pack.{Pack}

undone : (c : Charger) (q : Pack) → charger_goes q ≡ true → alarm_inhibited (broadcast_taken c q) ≡ false
unfolding charger_written
undone c q g = simp g

pub words_undo_alarm : WordsUndoAlarm
unfolding charger_sampled_of
words_undo_alarm j t s k a l g =
    let q = moved_of j.pack.pack t.pack in
    tick_charger (λ d. alarm_inhibited d ≡ false) j t (s, k) a l (undone (charger_sampled_of j.charger t.charger) q g) (undone j.charger q g)

pub rest_asks_for_current : RestAsksForCurrent
rest_asks_for_current p r = (simp r, simp r)
