-- The witness: of all picks, the ones that explain the states shown if any do. Nobody has to believe this. Assumes nothing.
use Rattle.std.specs.Prelude.{ℕ, Bool, ◌&&◌, List, [], ◌∷◌}
use Rattle.std.proofs.Math.Bool.{cond}
use Rattle.rules.specs.Lists.{some, no_plan, first}
use Rattle.rules.specs.States.{state_at, is}
use Rattle.rules.specs.Table.{entry, body_of, is_body, children, rank}
use Rattle.rules.specs.declared.Body.TheVariants.{AnyOrder}
use Rattle.rules.specs.declared.PlanState.TheVariants.{Ready, Activated}

-- the last number of a list that passes a test, or `no_plan`
abbrev pub last : (ℕ → Bool) → List ℕ → ℕ
last f [] = no_plan
last f (k ∷ ks) = cond (some f ks) (last f ks) (cond (f k) k no_plan)

-- of the candidates of a list the first that is marked, else the last, else `no_plan`
abbrev pub first_marked : (ℕ → Bool) → (ℕ → Bool) → List ℕ → ℕ
first_marked candidate marked ks =
    let both : ℕ → Bool = (λ c. candidate c && marked c) in
    cond (some both ks) (first both ks) (last candidate ks)

module _ (t s shown : List ℕ) where
  -- the child of q that the states shown let q have activated: the lowest Ready child shown Activated; where there is none, the
  -- highest Ready child; `no_plan` where no child is Ready
  unfoldable pub activated_child : ℕ → ℕ
  activated_child q = first_marked (λ c. is Ready (state_at s c)) (λ c. is Activated (state_at shown c)) (children t q)

  -- its rank as the pick of q; 0 where q is not any-order or no child is Ready
  unfoldable pub witness : ℕ → ℕ
  unfolding activated_child
  witness q =
      cond (is_body AnyOrder (body_of (entry t q)) && some (λ c. is Ready (state_at s c)) (children t q)) (rank t (activated_child q)) 0
