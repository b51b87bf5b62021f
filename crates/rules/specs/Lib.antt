-- Document 01, and what document 02 adds to it, as definitions: what a reader must believe, in their order and their words. docs/RULES.md
-- tells the same in numbered paragraphs, each with the names of its definitions. Only the rows of the last file are proved here. Demand 3
-- is what is promised of records; of document 02 (i) is bodies 5 to 8, (ii) rule 2, (iii) time patterns, (v) formulas, (vii) the fallback,
-- (ix) causes.
--
-- How to read them. `-- ..` is a comment. Lines that begin with `use` say where names come from: skip them, but for `x as y`, where y is
--   the name of x here, and `y.z` the z of x. `pub mod` names a file.
--   `f : A → B → C` says what f takes and gives; the lines under it define it, one for each shape: `f zero` and `f (suc k)` are the cases
--   0 and k + 1, others `f []`, `f (x ∷ xs)`, `f Inactive`, `f (Err why)`. `f a b` is f of a and b, and binds tighter than any symbol.
--   A function that is given fewer things than it takes is one of the rest: `eqb j` tests whether a number is j. `◌and_then◌` is written
--   between its two. `λ c. ..` is a function of c; `let y = .. in ..` gives a name. `{A : Type 0} →`: for things of any kind A.
--   `module _ (t : ..) where`: what stands in it takes t first, which is left out there, and is written `f t ..` elsewhere.
--   ℕ: the numbers from 0. Bytes, plans and steps are numbers; a slice is the list of its bytes. `+ - * / % ^` are sum, difference
--   (never below 0), product, whole quotient, remainder, power; `x / 2 ^ k % 2` is ((x / (2 ^ k)) % 2). `max`, `min`: the larger, the
--   smaller.
--   `cond b x y` is x where b is true, else y. `elim x [ None ↦ a | Some k ↦ b ]` is a where x is None, and b where x is Some of something,
--   which b calls k. `not`, `&&`, `||`: && joins more closely.
--   `Option A` is `None`, nothing, or `Some x`, an x of A; `Result A B` is `Ok x`, an x of A, or `Err y`, a y of B, which says why there is
--   none. `tt` is the one value of `Unit`: `Ok tt` says only that all is well.
--   `eqb`, `ltb`, `leb` test a = b, a < b, a ≤ b, and `beq` whether two tests agree. `T b`: the test b is true.
--   A claim holds or does not. `x ≡ y`: they are the same; `x ≤ y`, `x < y`. `A → B` between claims: if A holds, so does B; `A → ⊥`: A
--   does not hold; `⊥` never does, `Unit` always. `A ⊎ B`: one of the two, or both; `A × B`: both. `(a : A) → B`: of every a B holds;
--   `(a : A) × B`: some a of which B holds. What ends in `→ Type 0` is a claim, and so is a `record` or a `data` with claims among its
--   lines: it holds where there is one.
--   Lists: `[]`, `x ∷ xs`, `xs ++ ys`, `length`; `take n`, `drop n`: the first n, and all but these; `get_or s i d`: what stands at i,
--   counted from 0, or d past the end; `replicate n v`: n times v; `map f`: f of each.
--   `record R .. where`: an R is one value for each line; `r.field` reads one, `record { field = .. }` gives them. (A treatment record
--   is another thing.) `data D .. where`: a D is made in one of the ways listed; `{why : ..}` is left out where it is plain. `"APT"` is a
--   text, `\n` in it a new line, `0x41` a number in hexadecimal.
--   `pub`, `abbrev`, `unfoldable`, `unfolding`, `infixr` are for the prover and change no meaning, and `refl` has it compute both sides.
--   'Assumes nothing' closes a heading where the file rests on no unproved fact. What comes from `specs.declared` is one of a few names
--   (an enum) or has a value for each of a few fields (a struct), of src/lib.rt.
--
-- Words used throughout: t a table, s the states before and w the words of a step, r a treatment record, all as bytes; p a plan, q its
-- parent, c a child, and of a call the room for causes; e a plan's entry, or a node; x one plan's input word; o orders; `again` a plan's
-- retry-aborted; i a node, or a step counted from 0; `rule` the number of a rule, 1 or 2 (what a step would be by another number nobody is
-- told: 17). 'Before' and 'lower' speak of plan numbers, 'above' and 'under' of the tree.
pub mod Lists
pub mod Bytes
pub mod States
pub mod Table
pub mod WaitFor
pub mod Words
pub mod Step
pub mod HandedIn
pub mod Rest
pub mod Record
pub mod Answers
pub mod SubTree
pub mod Program
pub mod Demands
pub mod Cases
