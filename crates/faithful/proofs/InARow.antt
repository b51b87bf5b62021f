-- Pieces of bytes in a row, as the plans and the nodes of a table are: where each lies, and when two rows are the same. Assumes nothing.
use Prim.Native.Nat.{ℕ, zero, suc, ◌+◌, ◌<◌}
use native.Mathlib.Omega.{arith}
use native.Mathlib.Decide.{ℕ_discrete}
use mathlib.Core.Path.{◌≡◌, refl, sym, ap, ap₂, ◌∙◌}
use mathlib.Core.List.{List, [], ◌++◌, append_assoc, append-nil}
use lib.ListN.{length, take, drop}
use lib.Seq.{take_at, drop_at, get_or-take, get_or-drop}
use Rattle.rules.specs.Bytes.{byte_at}

-- a row: the first k pieces
pub record Row (row piece : ℕ → List ℕ) : Type 0 where
  pub start : row 0 ≡ []
  pub more : (k : ℕ) → row (suc k) ≡ row k ++ piece k

module _ (row piece : ℕ → List ℕ) (is : Row row piece) where
  -- piece p lies behind those before it
  behind : (k p : ℕ) → p < k → (rest : List ℕ) × (row k ≡ row p ++ (piece p ++ rest))
  behind zero p l = absurd (omega arith)
  behind (suc k) p l = go (ℕ_discrete p k) (behind k p)
    where
      go :
          Dec (p ≡ k) → (p < k → (rest : List ℕ) × (row k ≡ row p ++ (piece p ++ rest)))
          → (rest : List ℕ) × (row (suc k) ≡ row p ++ (piece p ++ rest))
      go (yes e) before = ([], is.more k ∙ rw (sym e, append-nil (piece p)) refl)
      go (no e) before =
          let found = before (omega arith) in
          (found.0 ++ piece k, is.more k ∙ rw found.1 (simp append_assoc))

  -- so it can be found there
  pub piece_at : (k p at size : ℕ) → p < k → length (row p) ≡ at → length (piece p) ≡ size → take size (drop at (row k)) ≡ piece p
  piece_at k p at size l far long =
      let found = behind k p l in
      rw found.1 (rw (drop_at (row p) (piece p ++ found.0) at far) (take_at (piece p) found.0 size long))

  -- two rows of the same pieces are the same
  pub same_row :
      (other piece' : ℕ → List ℕ) → Row other piece' → (k : ℕ) → ((p : ℕ) → p < k → piece p ≡ piece' p) → row k ≡ other k
  same_row other piece' is' zero same = is.start ∙ sym is'.start
  same_row other piece' is' (suc k) same =
      is.more k
      ∙ ap₂ (λ (a b : List ℕ). a ++ b) (same_row other piece' is' k (λ p l. same p (omega arith))) (same k (omega arith))
      ∙ sym (is'.more k)

-- a byte of a part
pub byte_of : (l part : List ℕ) (at size i : ℕ) → take size (drop at l) ≡ part → i < size → byte_at l (at + i) ≡ byte_at part i
byte_of l part at size i is inside =
    sym (get_or-take size (drop at l) i 0 inside ∙ get_or-drop at l i 0) ∙ ap (λ (m : List ℕ). byte_at m i) is
