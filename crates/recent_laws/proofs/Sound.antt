-- What is kept is sound.
-- Assumes nothing.
use Prim.Native.Nat.{ℕ, zero, suc, ◌*◌, ◌<◌, ◌≤◌}
use mathlib.Core.Bool.{true, ◌&&◌, and-true, and_comm}
use mathlib.Core.List.{List, [], ◌∷◌, map, reverse, reverse-cons}
use mathlib.Core.Path.{◌≡◌, refl, ap, ◌∙◌, sym}
use native.Mathlib.Omega.{arith}
use lib.IntN.{ℤ}
use lib.ListN.{length, take, drop, length-drop}
use lib.Seq.{length-take-le}
use Rattle.recent.proofs.Soundness.{recent-sound}
use Rattle.recent.proofs.Totals.{totals_append}
use Rattle.recent.specs.Recent.{can_give, total_sound, totals_sound}
use Rattle.recent_laws.specs.Kept.{total_word, begun_of, recent_of}
use Rattle.recent_laws.specs.Minute.{cut, seconds, total_of}
use Rattle.recent_laws.specs.Promises.{Currents, KeptSound}
use Rattle.recent_laws.proofs.Currents.{currents_take, currents_drop}
use Rattle.recent_laws.proofs.Cut.{seconds_length}
use Rattle.recent_laws.proofs.Last.{recently, sixty, recently_enough, recently_currents, last_totals}
use Rattle.recent_laws.proofs.Totals.{kept_total, total_can}

-- one kept total
one_sound : (l : List ℤ) (n : ℕ) → Currents l → length l ≡ n → n ≤ 1000 → total_sound n (total_word l) ≡ true
one_sound l n h e m =
    ap (can_give n) (kept_total l h (omega arith)) ∙ ap (λ (k : ℕ). can_give k (total_of l)) (sym e)
    ∙ total_can l h

-- those of seconds
cut_sound : (j : ℕ) (l : List ℤ) → Currents l → 1000 * j ≤ length l → totals_sound (map total_word (cut 1000 j l)) ≡ true
unfolding totals_sound cut
cut_sound zero l h n = refl
cut_sound (suc j) l h n =
    let one = one_sound (take 1000 l) 1000 (currents_take 1000 l h) (length-take-le 1000 l (omega arith)) (omega arith) in
    ap (λ b. b && totals_sound (map total_word (cut 1000 j (drop 1000 l)))) one
    ∙ cut_sound j (drop 1000 l) (currents_drop 1000 l h) (omega (arith, length-drop 1000 l))

-- in either order
reverse_sound : (l : List ℕ) → totals_sound (reverse l) ≡ totals_sound l
unfolding totals_sound
reverse_sound [] = refl
reverse_sound (t ∷ l) =
    ap totals_sound (reverse-cons t l) ∙ totals_append (reverse l) (t ∷ []) ∙ and_comm (totals_sound (reverse l)) (total_sound 1000 t && true)
    ∙ ap (λ x. x && totals_sound (reverse l)) (and-true (total_sound 1000 t))
    ∙ ap (λ x. total_sound 1000 t && x) (reverse_sound l)

-- what is begun is less than a second
begun_length : (l : List ℤ) → length (begun_of l) < 1000
begun_length l = omega (arith, seconds_length l, length-drop (1000 * length (seconds l)) l)

pub kept_sound : KeptSound
unfolding recent_of
kept_sound l h =
    let g = begun_of l in
    recent-sound (recent_of l)
    (record {
      most = omega arith;
      begun = begun_length l;
      totals =
          ap totals_sound (last_totals l) ∙ reverse_sound (map total_word (cut 1000 (sixty l) (recently l)))
          ∙ cut_sound (sixty l) (recently l) (recently_currents l h) (recently_enough l);
      total = one_sound g (length g) (currents_drop (1000 * length (seconds l)) l h) refl (omega (arith, begun_length l));
    })
