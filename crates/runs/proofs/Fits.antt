-- From set-up on, fields hold what their types let them hold: so the premises of the theorems on exchanges and words are met.
-- Assumes nothing.
use mathlib.Core.Bool.{Bool, true, false, cond}
use mathlib.Core.List.{List, [], ◌∷◌, ◌++◌}
use mathlib.Core.Path.{subst}
use Rattle.bus_laws.proofs.Fits.{fits_stays}
use Rattle.clock_laws.proofs.Fits.{sampled_fits}
use Rattle.gauge_laws.proofs.Range.{word_below}
use Rattle.start.proofs.Start.{start_fits}
use Rattle.pack.specs.Fits.{Fits, SampleFits}
use Rattle.pack.specs.declared.Sample.{Sample}
use Rattle.pack.specs.declared.State.{State}
use Rattle.rooms.specs.Rooms.{Bytes}
use Rattle.runs.proofs.Histories.{run-sound}
use Rattle.runs.proofs.Measures.{set_up_sound}
use Rattle.runs.specs.Events.{Event, sample, call, step, EventFits, accepted, accepted_of}
use Rattle.runs.specs.Promises.{RunFits, AcceptedSigned, ReachedFits, ReachedExchanged, ReachedWords}
use Rattle.runs.specs.Since.{from_set_up, Signed16}

pub step_fits : (s : State) (e : Event) → Fits s → EventFits s e → Fits (step s e)
step_fits s (sample x n) f g = sampled_fits s x n f g
step_fits s (call c) f g = fits_stays s c f g

pub run_fits : RunFits
run_fits s [] f t = f
run_fits s (e ∷ es) f (g, t) = run_fits (step s e) es (step_fits s e f g) t

taken_signed : (b : Bool) (x : Sample) (xs : List Sample) → SampleFits x → Signed16 xs → Signed16 (cond b (x ∷ []) [] ++ xs)
taken_signed true x xs f g = (f.current, g)
taken_signed false x xs f g = g

pub accepted_signed : AcceptedSigned
accepted_signed s [] t = tt
accepted_signed s (sample x n ∷ es) (f, t) = taken_signed (accepted s (sample x n)) x (accepted_of (step s (sample x n)) es) f (accepted_signed (step s (sample x n)) es t)
accepted_signed s (call c ∷ es) (f, t) = accepted_signed (step s (call c)) es t

pub reached_fits : ReachedFits
reached_fits u first es f g t = run_fits (from_set_up u first) es (start_fits u first f g) t

pub reached_exchanged : ReachedExchanged
reached_exchanged u first es f g t c command bytes service factory reads v =
    record {
      command = command;
      reads = reads;
      is-served = v;
      a_byte = (subst Bytes reads.1 bytes).1.0;
      fits = (reached_fits u first es f g t).pack;
      service = service;
      factory = factory;
    }

pub reached_words : ReachedWords
reached_words u first es command a f g t =
    let s = from_set_up u first in word_below _ command (run-sound s es (set_up_sound u first a)) (reached_fits u first es f g t).pack
