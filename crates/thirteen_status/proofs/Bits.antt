-- A status word, number by number.
-- Assumes nothing.
use Prim.Native.Nat.{ℕ, ◌+◌}
use mathlib.Core.Path.{◌≡◌}

-- nine numbers beside that of INITIALIZED, each what its bit adds
pub nine : {a b c d e f g h i a' b' c' d' e' f' g' h' i' : ℕ} → a ≡ a' → b ≡ b' → c ≡ c' → d ≡ d' → e ≡ e' → f ≡ f' → g ≡ g' → h ≡ h' → i ≡ i'
    → a + b + c + d + e + f + 0x0080 + g + h + i ≡ a' + b' + c' + d' + e' + f' + 0x0080 + g' + h' + i'
nine p q r s t u v w x = rw (p, q, r, s, t, u, v, w, x)
