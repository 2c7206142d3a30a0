-- What a sound state gives a sample to stand on, and what its parts come to.
-- Assumes nothing.
use Rattle.std.proofs.Common.{◌≡◌, ℕ, ◌/◌, true, length, ap, ◌∙◌}
use Rattle.broadcasts.proofs.Sending.{counted}
use Rattle.broadcasts.specs.Broadcasts.{alarm_goes, charger_goes, broadcast_of}
use Rattle.frame.specs.Broadcasts.{message_size}
use Rattle.clock.specs.Broadcast.{sampled_of, served_sample}
use Rattle.clock.specs.Sample.{moved_of, elapsed_of}
use Rattle.clock.specs.declared.Sampled.{Sampled}
use Rattle.pack.specs.Kept.{latest_of}
use Rattle.pack.specs.Sound.{tank_sound}
use Rattle.pack.specs.declared.Pack.{Pack}
use Rattle.pack.specs.declared.Sample.{Sample}
use Rattle.pack.specs.declared.State.{State}
use Rattle.pack.specs.declared.Timers.{Timers}
use Rattle.seconds.proofs.After as recent
use Rattle.recent.specs.Recent.{recent_sound}
use Rattle.tank.proofs.Charge as tank
use Rattle.timers.specs.Countdown.{restarted_of}

-- the alarms can be read at the moment of sending
pub sendable : (p q : Pack) (x : Sample) → tank_sound p.tank ≡ true → recent_sound p.recent ≡ true → q ≡ moved_of p x → (tank_sound q.tank ≡ true) × (recent_sound q.recent ≡ true)
unfolding moved_of
sendable p q x h r e =
    let elapsed = elapsed_of x.counter p.latest.counter in
    (ap (λ (m : Pack). tank_sound m.tank) e ∙ tank.after_sound p.settings p.tank (latest_of x) elapsed h, ap (λ (m : Pack). recent_sound m.recent) e ∙ recent.after_sound p.recent (latest_of x).current elapsed r)

-- what set-up chose stays
pub same_choice : (p q : Pack) (x : Sample) → q ≡ moved_of p x → q.settings.plain ≡ p.settings.plain
unfolding moved_of
same_choice p q x e = ap (λ (m : Pack). m.settings.plain) e

pub assembled : (s : State) (x : Sample) (q : Pack) (n size : ℕ) (t : Timers)
    → q ≡ moved_of s.pack x → n ≡ length (broadcast_of q) → size ≡ message_size q.settings.plain → t ≡ restarted_of q.timers (alarm_goes q) (charger_goes q)
    → ◌≡◌ {A = Sampled}
    (record {
      answer = 0;
      state = record { error = s.error; pack = record { settings = q.settings; host = q.host; latest = q.latest; recent = q.recent; tank = q.tank; timers = t } };
      length = n;
      messages = n / size;
    })
    (served_sample s x)
unfolding sampled_of
assembled s x q n size t hq hn hs ht = simp (ht, hn, hs, counted, hq)
