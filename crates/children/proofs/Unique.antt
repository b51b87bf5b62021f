-- One answer: any two exits that the contract of `rank_children`, `collect_named`, `survey` or `resurvey` permits for one entry leave
-- the same lists. Each is shown of lists, and then of the contract itself as Rattle reads it: `Post κs a z e`, of the lifetimes, the
-- arguments, the answer and the parameters at exit, arguments and parameters in the order of the declaration. Assumes nothing.
use Prim.Native.Nat.{ℕ, ◌+◌, ◌*◌, ◌/◌, ◌%◌, ◌<◌}
use native.Mathlib.Omega.{arith}
use native.Mathlib.Decide.{dec_lt}
use mathlib.Core.Path.{◌≡◌}
use mathlib.Core.Bool.{Bool}
use mathlib.Core.List.{List}
use lib.ListN.{get_or}
use lib.Seq.{ext_get_or}
use contract.Lifetimes.{Lfts}
use Rattle.rules.proofs.Unique.{one_answer}
use Rattle.children.specs.Sets.{Beyond, Ranked, Collected, Surveyed}
use Rattle.children.proofs.rank_children.Reads as rank_children
use Rattle.children.proofs.collect_named.Reads as collect_named
use Rattle.children.proofs.survey.Reads as survey
use Rattle.children.proofs.resurvey.Reads as resurvey

-- two lists of numbers that hold the same below n
abbrev pub Alike : ℕ → List ℕ → List ℕ → Type 0
Alike n a b = (k : ℕ) → k < n → get_or a k 0 ≡ get_or b k 0

-- two lists that were written from one below n only, and alike there, are one
pub written_once : (n : ℕ) (old new new' : List ℕ) → Beyond n old new → Beyond n old new' → Alike n new new' → new ≡ new'
written_once n old new new' b b' below = ext_get_or 0 new new' (one_answer b.long b'.long) (λ k l. at k (dec_lt k n))
  where
    at : (k : ℕ) → Dec (k < n) → get_or new k 0 ≡ get_or new' k 0
    at k (yes l) = below k l
    at k (no l) = one_answer (b.rest k (omega arith)) (b'.rest k (omega arith))

module _ (t : List ℕ) (n : ℕ) where
  -- ranks and numbers of children, written below n
  pub ranked_once :
      (ranks₀ counts₀ ranks counts ranks' counts' : List ℕ)
      → Ranked t n ranks counts → Beyond n ranks₀ ranks × Beyond n counts₀ counts
      → Ranked t n ranks' counts' → Beyond n ranks₀ ranks' × Beyond n counts₀ counts'
      → (ranks ≡ ranks') × (counts ≡ counts')
  ranked_once ranks₀ counts₀ ranks counts ranks' counts' h b h' b' = (
    written_once n ranks₀ ranks ranks' b.0 b'.0 (λ p l. one_answer (h.ranked p l) (h'.ranked p l)),
    written_once n counts₀ counts counts' b.1 b'.1 (λ q l. one_answer (h.counted q l) (h'.counted q l)),
  )

  -- words of the children that pass a test, written below n
  pub collected_once :
      (f : ℕ → Bool) (words₀ words words' : List ℕ)
      → Collected t n f words → Beyond n words₀ words → Collected t n f words' → Beyond n words₀ words'
      → words ≡ words'
  collected_once f words₀ words words' h b h' b' =
      written_once n words₀ words words' b b' (λ q l. one_answer (h.word q l) (h'.word q l))

  -- words of the children in each state, written below n times nine
  pub surveyed_once :
      (s sets₀ sets sets' : List ℕ)
      → Surveyed t s n sets → Beyond (n * 9) sets₀ sets → Surveyed t s n sets' → Beyond (n * 9) sets₀ sets'
      → sets ≡ sets'
  surveyed_once s sets₀ sets sets' h b h' b' = written_once (n * 9) sets₀ sets sets' b b' (λ k l. rw (whole k) (at k l))
    where
      whole : (k : ℕ) → k ≡ k / 9 * 9 + k % 9
      whole k = omega arith

      at : (k : ℕ) → k < n * 9 → get_or sets (k / 9 * 9 + k % 9) 0 ≡ get_or sets' (k / 9 * 9 + k % 9) 0
      at k l =
          let q_in : k / 9 < n = omega arith in
          let x_in : k % 9 < 9 = omega arith in
          one_answer (h.word (k / 9) (k % 9) q_in x_in) (h'.word (k / 9) (k % 9) q_in x_in)

-- `rank_children`: the ranks and the numbers of children that it leaves are one
pub rank_children_once :
    (κs : Lfts 3) (a : _) (z z' : _) (e e' : _) → rank_children.Post κs a z e → rank_children.Post κs a z' e'
    → (e.1.1.0.now ≡ e'.1.1.0.now) × (e.1.1.1.0.now ≡ e'.1.1.1.0.now)
rank_children_once κs a z z' e e' h h' = ranked_once _ _ _ _ _ _ _ _ h.0 h.1 h'.0 h'.1

-- `collect_named`: the words that it leaves are one
pub collect_named_once :
    (κs : Lfts 3) (a : _) (z z' : _) (e e' : _) → collect_named.Post κs a z e → collect_named.Post κs a z' e'
    → e.1.1.1.0.now ≡ e'.1.1.1.0.now
collect_named_once κs a z z' e e' h h' = collected_once _ _ _ _ _ _ h.0 h.1 h'.0 h'.1

-- `survey`: the words that it leaves are one
pub survey_once :
    (κs : Lfts 4) (a : _) (z z' : _) (e e' : _) → survey.Post κs a z e → survey.Post κs a z' e'
    → e.1.1.1.1.0.now ≡ e'.1.1.1.1.0.now
survey_once κs a z z' e e' h h' = surveyed_once _ _ _ _ _ _ h.0 h.1 h'.0 h'.1

-- `resurvey`: the words that it leaves are one
pub resurvey_once :
    (κs : Lfts 5) (a : _) (z z' : _) (e e' : _) → resurvey.Post κs a z e → resurvey.Post κs a z' e'
    → e.1.1.1.1.1.0.now ≡ e'.1.1.1.1.1.0.now
resurvey_once κs a z z' e e' h h' = surveyed_once _ _ _ _ _ _ h.0 h.1 h'.0 h'.1
