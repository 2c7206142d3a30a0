-- What a served call of the writer says, and that the names of a key of bytes are bytes. Assumes nothing.
use mathlib.Core.Path.{◌≡◌, refl, sym, ◌∙◌}
use mathlib.Core.Bool.{Bool, true, false, ◌||◌}
use mathlib.Core.List.{List, [], ◌∷◌, ◌++◌}
use Prim.Native.Nat.{ℕ, ◌<◌}
use native.Mathlib.Omega.{arith}
use lib.ListN.{length, replicate}
use lib.Seq.{take-append_seam}
use lib.Dec.{ltb}
use mathlib.Mathlib.Data.Bool.Basic.{or-eq-false-eq-eq-false-and-eq-false}
use borrow.Author.Tests.{le-ltb, ltb-false}
use Rattle.std.specs.Prelude.{Ok, Err}
use Rattle.refusals.specs.declared.Refusal.TheVariants.{NoFit}
use Rattle.rooms.specs.Rooms.{Bytes}
use Rattle.names.specs.Names.{marked, escape_byte, escape}
use Rattle.key.specs.Key.{key_of_parts, Parts, PartsFit, IsKey}
use Rattle.key_writer.specs.Writing.{refused, key_wrote, key_room}
use Rattle.key_laws.specs.Laws.{WriterGives}

-- ---- what a served call of the writer says

open_room : (p : Parts) → PartsFit p → refused p.maker p.device (replicate 139 0) ≡ false
unfolding refused
open_room p f = simp (le-ltb _ _ f.maker_fits, le-ltb _ _ f.device_fits)

pub gives : (k : List ℕ) → IsKey k → WriterGives k
unfolding key_wrote key_room
gives k i =
    let p : Parts = i.parts in
    let o = open_room p i.fit in
    record {
      parts = p;
      date-word = i.fit.date_fits;
      serial_word = i.fit.serial_fits;
      room = replicate 139 0;
      count = length (key_of_parts p);
      served = rw o;
      front = rw o (take-append_seam (key_of_parts p) _ ∙ sym i.given);
    }

pub is_given : (k : List ℕ) → WriterGives k → IsKey k
unfolding key_wrote key_room refused
is_given k w = go (refused p.maker p.device w.room) refl
  where
    p : Parts
    p = w.parts

    go : (t : Bool) → refused p.maker p.device w.room ≡ t → IsKey k
    go true e =
        let refusal : Err NoFit ≡ Ok w.count = rw e at w.served in
        let z : ◌≡◌ {A = ℕ} 0 1 = cc in
        absurd (omega arith)
    go false e =
        let answered : Ok (length (key_of_parts p)) ≡ Ok w.count = rw e at w.served in
        let n : w.count ≡ length (key_of_parts p) = cc in
        let a = (or-eq-false-eq-eq-false-and-eq-false (ltb 32 (length p.maker) || ltb 32 (length p.device)) (ltb (length w.room) 139)).0 e in
        let b = (or-eq-false-eq-eq-false-and-eq-false (ltb 32 (length p.maker)) (ltb 32 (length p.device))).0 a.0 in
        record {
          parts = p;
          fit = record { maker_fits = ltb-false _ _ b.0; device_fits = ltb-false _ _ b.1; date_fits = w.date-word; serial_fits = w.serial_word };
          given = sym (rw (e, n) at w.front) ∙ take-append_seam (key_of_parts p) _;
        }

-- ---- bytes

pub bytes_append : (s t : List ℕ) → Bytes (s ++ t) → Bytes s × Bytes t
bytes_append [] t h = (tt, h)
bytes_append (b ∷ s) t h = let r = bytes_append s t h.1 in ((h.0, r.0), r.1)

pub bytes_plain : (name : List ℕ) → Bytes (escape name) → Bytes name
bytes_plain [] h = tt
bytes_plain (b ∷ s) h =
    let r = bytes_append (escape_byte b) (escape s) h in
    (last (marked b) refl, bytes_plain s r.1)
  where
    last : (t : Bool) → marked b ≡ t → b < 256
    last true e = (rw e at (bytes_append (escape_byte b) (escape s) h).0).1.0
    last false e = (rw e at (bytes_append (escape_byte b) (escape s) h).0).0
