-- Captures: what comes out of each public function, and what must.
-- Assumes nothing.
use Rattle.std.specs.Prelude.{ℕ, Bool, Option, Result, List, [], ◌∷◌}
use Rattle.capture.specs.Capture.{is_capture}
use Rattle.capture.specs.Walk.{body_at, body_place, opened_of, step_at}
use Rattle.capture.specs.declared.Opened.{Opened}
use Rattle.capture.specs.declared.Step.{Step}
use Rattle.capture_writer.specs.Writer.{capture_room, capture_wrote}
use Rattle.outcomes.specs.Outcome.{Terms, terms_of}
use Rattle.reader.specs.Reading.{after_of, body_of, body_start, start_of, step_of}
use Rattle.reader.specs.declared.Reader.{Reader}
use Rattle.refusals.specs.declared.Refusal.{Refusal}
use Rattle.capture.specs.contracts.is_capture as is_capture_owed
use Rattle.capture.specs.contracts.«open» as open_owed
use Rattle.capture.specs.contracts.step_at as step_at_owed
use Rattle.capture.specs.contracts.body_at as body_at_owed
use Rattle.reader.specs.contracts.start as start_owed
use Rattle.reader.specs.contracts.next as next_owed
use Rattle.reader.specs.contracts.body as body_owed
use Rattle.reader.specs.contracts.after as after_owed
use Rattle.capture_writer.specs.contracts.write_capture as write_capture_owed

-- `is_capture`
abbrev pub is_capture_terms : Terms is_capture_owed.ended
is_capture_terms = terms_of
    (Bool ∷ [])
    (λ κs r _. (r, tt))
    (λ κs (s, _). (is_capture s.now, tt))

-- `open`
abbrev pub open_terms : Terms open_owed.ended
open_terms = terms_of
    (Result Opened Refusal ∷ [])
    (λ κs r _. (r, tt))
    (λ κs (s, _). (opened_of s.now, tt))

-- `step_at`
abbrev pub step_at_terms : Terms step_at_owed.ended
step_at_terms = terms_of
    (Result (Option Step) Refusal ∷ [])
    (λ κs r _. (r, tt))
    (λ κs (s, (row, (place, _))). (step_at s.now row place, tt))

-- `body_at`
abbrev pub body_at_terms : Terms body_at_owed.ended
body_at_terms = terms_of
    (List ℕ ∷ (ℕ × ℕ) ∷ [])
    (λ κs r _. (r.now, (r.ref_ptr, tt)))
    (λ κs (s, (row, (place, _))). (body_at s.now row place, (body_place s.now row place s.ref_ptr, tt)))

-- `start`
abbrev pub start_terms : Terms start_owed.ended
start_terms = terms_of
    (Reader ∷ [])
    (λ κs r _. (r, tt))
    (λ κs (bytes, _). (start_of bytes, tt))

-- `next`
abbrev pub next_terms : Terms next_owed.ended
next_terms = terms_of
    (Result (Option Step) Refusal ∷ [])
    (λ κs r _. (r, tt))
    (λ κs (r, _). (step_of r, tt))

-- `body`
abbrev pub body_terms : Terms body_owed.ended
body_terms = terms_of
    (List ℕ ∷ (ℕ × ℕ) ∷ [])
    (λ κs r _. (r.now, (r.ref_ptr, tt)))
    (λ κs (r, _). (body_of r, (body_start r, tt)))

-- `after`
abbrev pub after_terms : Terms after_owed.ended
after_terms = terms_of
    (Reader ∷ [])
    (λ κs r _. (r, tt))
    (λ κs (r, _). (after_of r, tt))

-- `write_capture`
abbrev pub write_capture_terms : Terms write_capture_owed.ended
write_capture_terms = terms_of
    (Result ℕ Refusal ∷ List ℕ ∷ [])
    (λ κs r (_, (_, (_, (room, _)))). (r, (room.now, tt)))
    (λ κs (marks, (lengths, (bodies, (room, _)))). (capture_wrote marks.now lengths.now bodies.now room.now, (capture_room marks.now lengths.now bodies.now room.now, tt)))
