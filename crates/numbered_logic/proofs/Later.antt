-- A store that goes on, and what stands in it.
use Rattle.std.proofs.Common.{◌≡◌, refl, sym, ap, ◌∙◌, ℕ, ◌+◌, ◌<◌, Option, Some, None, List, [], ◌∷◌, ◌++◌, map, length, take, drop, arith}
use Rattle.std.specs.List.{AllByRecursion}
use Rattle.logic_core.specs.Tree.{Tree}
use Rattle.logic_core.specs.Normal.{normal}
use Rattle.term_bank.specs.Numbered.{at, Begins}
use Rattle.term_bank.proofs.Numbers.{begins_at, begins_length, begins_same, begins_then}
use Rattle.numbered_terms.specs.Stored.{Numbered, Grows}
use Rattle.numbered_facts.specs.Answers.{StandsFor}
use Rattle.numbered_branches.specs.Branches.{NumberedFact, NumberedBranch, fact_at, branch_at, IsFactBelow}
use Rattle.numbered_branches.specs.NumberedChange.{with_facts}
use Rattle.numbered_branches.proofs.Changing.{without_one}
use Rattle.tableau_branch.specs.Branch.{without}

pub grows_same : (n : Numbered) → Grows n n
grows_same n = record { terms = begins_same n.terms; vars = refl; defs = refl }

pub grows_then : (n m o : Numbered) → Grows n m → Grows m o → Grows n o
grows_then n m o g h = record { terms = begins_then n.terms m.terms o.terms g.terms h.terms; vars = h.vars ∙ g.vars; defs = h.defs ∙ g.defs }

pub below_later : (n m : Numbered) (i : ℕ) → Grows n m → i < length n.terms → i < length m.terms
below_later n m i g l = omega (arith, l, begins_length n.terms m.terms g.terms)

pub at_later : (n m : Numbered) (i : ℕ) → Grows n m → i < length n.terms → at m.terms i ≡ at n.terms i
at_later n m i g l = begins_at n.terms m.terms i g.terms l

pub all_later : (n m : Numbered) (is : List ℕ) → Grows n m → AllByRecursion (λ i. i < length n.terms) is → AllByRecursion (λ i. i < length m.terms) is
all_later n m [] g h = tt
all_later n m (i ∷ is) g h = (below_later n m i g h.0, all_later n m is g h.1)

pub facts_later : (n m : Numbered) (fs : List NumberedFact) → Grows n m → AllByRecursion (IsFactBelow (length n.terms)) fs → AllByRecursion (IsFactBelow (length m.terms)) fs
facts_later n m [] g h = tt
facts_later n m (f ∷ fs) g h = (below_later n m f.term g h.0, facts_later n m fs g h.1)

pub fact_later : (n m : Numbered) (f : NumberedFact) → Grows n m → IsFactBelow (length n.terms) f → fact_at m.terms f ≡ fact_at n.terms f
fact_later n m f g l = λ k. record { term = at_later n m f.term g l k; number = f.number }

pub terms_later : (n m : Numbered) (is : List ℕ) → Grows n m → AllByRecursion (λ i. i < length n.terms) is → map (at m.terms) is ≡ map (at n.terms) is
terms_later n m [] g h = refl
terms_later n m (i ∷ is) g h = λ k. at_later n m i g h.0 k ∷ terms_later n m is g h.1 k

-- the same normal form
pub normal_later : (n m : Numbered) (i : ℕ) → Grows n m → i < length n.terms → normal m.vars m.defs [] (at m.terms i) ≡ normal n.vars n.defs [] (at n.terms i)
normal_later n m i g l = λ k. normal (g.vars k) (g.defs k) [] (at_later n m i g l k)

-- a number for what is there
pub stands_later : (ts us : List Tree) (o : Option ℕ) (t u : Option Tree) → Begins ts us → t ≡ u → StandsFor ts o t → StandsFor us o u
stands_later ts us None t u b e h = sym e ∙ h
stands_later ts us (Some i) t u b e h = (omega (arith, h.0, begins_length ts us b), sym e ∙ h.1 ∙ ap Some (sym (begins_at ts us i b h.0)))

-- a branch whose facts are those without one
pub without_at : (ts : List Tree) (b : NumberedBranch) (i : ℕ) (fs : List NumberedFact) → fs ≡ take i b.facts ++ drop (i + 1) b.facts → branch_at ts (with_facts b fs) ≡ without i (branch_at ts b)
without_at ts b i fs e = ap (λ gs. branch_at ts (with_facts b gs)) e ∙ without_one ts b i
