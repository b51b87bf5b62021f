-- Seven stores in a list of seven leave what was stored. Assumes nothing.
use Rattle.std.proofs.Common.{◌≡◌, ℕ, List, [], ◌∷◌, length, set, refl, arith}

pub written :
    (l : List ℕ) (x0 x1 x2 x3 x4 x5 x6 : ℕ) → length l ≡ 7
    → set (set (set (set (set (set (set l 0 x0) 1 x1) 2 x2) 3 x3) 4 x4) 5 x5) 6 x6 ≡ x0 ∷ x1 ∷ x2 ∷ x3 ∷ x4 ∷ x5 ∷ x6 ∷ []
written (a ∷ b ∷ c ∷ d ∷ f ∷ g ∷ h ∷ []) x0 x1 x2 x3 x4 x5 x6 e = refl
written [] x0 x1 x2 x3 x4 x5 x6 e = absurd (omega arith)
written (a ∷ []) x0 x1 x2 x3 x4 x5 x6 e = absurd (omega arith)
written (a ∷ b ∷ []) x0 x1 x2 x3 x4 x5 x6 e = absurd (omega arith)
written (a ∷ b ∷ c ∷ []) x0 x1 x2 x3 x4 x5 x6 e = absurd (omega arith)
written (a ∷ b ∷ c ∷ d ∷ []) x0 x1 x2 x3 x4 x5 x6 e = absurd (omega arith)
written (a ∷ b ∷ c ∷ d ∷ f ∷ []) x0 x1 x2 x3 x4 x5 x6 e = absurd (omega arith)
written (a ∷ b ∷ c ∷ d ∷ f ∷ g ∷ []) x0 x1 x2 x3 x4 x5 x6 e = absurd (omega arith)
written (a ∷ b ∷ c ∷ d ∷ f ∷ g ∷ h ∷ i ∷ l) x0 x1 x2 x3 x4 x5 x6 e = absurd (omega arith)
