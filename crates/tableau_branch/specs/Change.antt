-- What a step makes of a branch: the proof nodes that it begins with, the facts that are added and changed, and their sizes.
use Rattle.std.specs.Prelude.{ℕ, ◌+◌, Bool, true, false, ◌||◌, Option, Some, List, [], ◌∷◌, ◌++◌, length, take, drop, if◌then◌else◌}
use Rattle.logic_core.specs.Tree.{Tree, nodes}
use Rattle.logic_core.specs.Size.{capped}
use Rattle.logic_core.specs.Same.{same_term}
use Rattle.logic_core.specs.Wide.{◌>>=◌}
use Rattle.logic_core.specs.Junction.{is_truth}
use Rattle.logic_core.specs.Tighten.{tighten}
use Rattle.proof_core.specs.Proof.{Step, by_tighten}
use Rattle.tableau_branch.specs.Branch.{Fact, Branch, with_facts, is_there}

-- the sizes of terms, and their sums, end at 2^64 - 1
pub record Made : Type 0 where
  pub branch : Branch
  pub steps : List Step
  pub size : ℕ

abbrev pub begun : Branch → Made
begun b = record { branch = b; steps = []; size = 0 }

-- one more fact whose size counts
abbrev pub with_size : ℕ → Tree → ℕ
with_size n t = capped (n + capped (nodes t))

-- more nodes, after which the proof's next fact has this number
abbrev pub with_steps : List Step → ℕ → Made → Made
with_steps ss next m = record { branch = record (m.branch) { next = next }; steps = m.steps ++ ss; size = m.size }

-- a fact, the `t` node that it takes, and the number of the next fact
pub record Tightened : Type 0 where
  pub fact : Fact
  pub steps : List Step
  pub next : ℕ

-- the new fact of this number: where tightening changes it, a `t` node follows, whose result, the next fact, it is
abbrev pub tightened : ℕ → ℕ → Tree → Tightened
tightened number next t = let u = tighten t in if same_term u t then record { fact = record { term = t; number = number }; steps = []; next = next }
    else record { fact = record { term = u; number = next }; steps = by_tighten number ∷ []; next = next + 1 }

-- new facts with the numbers from this one on: their `t` nodes follow in their order
pub record AllTightened : Type 0 where
  pub facts : List Fact
  pub steps : List Step
  pub next : ℕ

abbrev pub tightened_each : ℕ → ℕ → List Tree → AllTightened
tightened_each number next [] = record { facts = []; steps = []; next = next }
tightened_each number next (t ∷ ts) = let one = tightened number next t in let rest = tightened_each (number + 1) one.next ts in
    record { facts = one.fact ∷ rest.facts; steps = one.steps ++ rest.steps; next = rest.next }

-- nodes of which the last appends these normal facts, with the `t` nodes that follow; and the facts
abbrev pub appended : List Step → List Tree → Made → List Fact × Made
appended ss ts m = let r = tightened_each m.branch.next (m.branch.next + length ts) ts in (r.facts, with_steps (ss ++ r.steps) r.next m)

abbrev pub appended_one : List Step → Tree → Made → Fact × Made
appended_one ss t m = let r = tightened m.branch.next (m.branch.next + 1) t in (r.fact, with_steps (ss ++ r.steps) r.next m)

-- the first two facts of a child of a node
abbrev pub appended_two : Tree → Tree → Made → Fact × Fact × Made
appended_two t u m = let p = tightened m.branch.next (m.branch.next + 2) t in let q = tightened (m.branch.next + 1) p.next u in
    (p.fact, q.fact, with_steps (p.steps ++ q.steps) q.next m)

-- true, and a fact that is there, are not added
abbrev pub added : Fact → Made → Made
added f m = if is_truth true f.term || is_there f.term m.branch.facts then m
    else record { branch = with_facts m.branch (m.branch.facts ++ f ∷ []); steps = m.steps; size = with_size m.size f.term }

abbrev pub added_each : List Fact → Made → Made
added_each [] m = m
added_each (f ∷ fs) m = added_each fs (added f m)

-- a changed fact after those before it: it goes away where it is true or equals another fact
abbrev pub kept : List Fact → Fact → List Fact → List Fact
kept earlier f later = if is_truth true f.term || (is_there f.term earlier || is_there f.term later) then earlier else earlier ++ f ∷ []

-- the fact at this place changed to f, which counts also where it goes away
abbrev pub changed_at : ℕ → Fact → Made → Made
changed_at n f m = let later = drop (n + 1) m.branch.facts in
    record { branch = with_facts m.branch (kept (take n m.branch.facts) f later ++ later); steps = m.steps; size = with_size m.size f.term }

abbrev pub emptied : Made → Made
emptied m = record { branch = with_facts m.branch []; steps = m.steps; size = m.size }

-- each fact that is picked becomes what `new` gives of it, by a node of its own, one after another
module _ (picks : Fact → Bool) (new : Tree → Option Tree) (node : Fact → Step) where
  abbrev pub changed_from : List Fact → List Fact → Made → Option Made
  changed_from done [] m = Some (record { branch = with_facts m.branch done; steps = m.steps; size = m.size })
  changed_from done (f ∷ fs) m = elim (picks f) [
    | false ↦ changed_from (done ++ f ∷ []) fs m
    | true ↦ (new f.term >>= λ t. let p = appended_one (node f ∷ []) t m in
        changed_from (kept done p.0 fs) fs (record { branch = (p.1).branch; steps = (p.1).steps; size = with_size (p.1).size (p.0).term }))
  ]

  abbrev pub changed_each : Made → Option Made
  changed_each m = changed_from [] m.branch.facts (emptied m)
