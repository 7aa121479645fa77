-- The text of an obligation before other bytes is these bytes put behind it part by part.
use Rattle.std.proofs.Common.{ℕ, ◌+◌, Bool, true, false, List, [], ◌∷◌, ◌++◌, refl}
use Rattle.std.specs.Prelude.{codes}
use Rattle.obligation_text.specs.Numbers.{number_text}
use Rattle.logic_core.specs.Tree.{Kind, Tree}
use Rattle.logic_core.specs.Def.{Def, Obligation}
use Rattle.obligation_text.specs.Text.{sort_text, sorts_text, spaced_sorts, line, logical_text, def_text, defs_text, axioms_text, obligation_text, term_text}
use Rattle.obligation_text.proofs.Printed.{sort_onto, sorts_onto, onto, sort_printed, sorts_printed, printed}
use Rattle.obligation_text.proofs.Puts.{Puts, put_two, put_spaced, put_text}

abbrev pub spaced_onto : List Kind → List ℕ → List ℕ
spaced_onto [] r = r
spaced_onto (k ∷ ks) r = 32 ∷ sort_onto k (spaced_onto ks r)

abbrev pub logical_byte : Bool → ℕ
logical_byte true = 108
logical_byte false = 112

abbrev pub def_onto : ℕ → Def → List ℕ → List ℕ
def_onto n d r = 100 ∷ 101 ∷ 102 ∷ 32 ∷ number_text n ++ 32 ∷ logical_byte d.logical ∷ 32 ∷ sorts_onto d.params (32 ∷ sort_onto d.sort (32 ∷ onto d.body (10 ∷ r)))

abbrev pub defs_onto : ℕ → List Def → List ℕ → List ℕ
defs_onto n [] r = r
defs_onto n (d ∷ ds) r = def_onto n d (defs_onto (n + 1) ds r)

abbrev pub axioms_onto : List Tree → List ℕ → List ℕ
axioms_onto [] r = r
axioms_onto (t ∷ ts) r = 97 ∷ 120 ∷ 32 ∷ onto t (10 ∷ axioms_onto ts r)

abbrev pub goal_onto : Tree → List ℕ → List ℕ
goal_onto t r = 103 ∷ 111 ∷ 97 ∷ 108 ∷ 32 ∷ onto t (10 ∷ r)

abbrev pub obligation_onto : Obligation → List ℕ → List ℕ
obligation_onto o r = 118 ∷ 97 ∷ 114 ∷ 115 ∷ spaced_onto o.vars (10 ∷ defs_onto 0 o.defs (axioms_onto o.axioms (goal_onto o.goal r)))

pub put_sort : (k : Kind) → Puts (sort_text k) (sort_onto k)
put_sort k = record { puts = sort_printed k }

pub put_sorts : (ks : List Kind) → Puts (sorts_text ks) (sorts_onto ks)
put_sorts ks = record { puts = sorts_printed ks }

pub put_term : (t : Tree) → Puts (term_text t) (onto t)
put_term t = record { puts = printed t }

put_spaced_sorts : (ks : List Kind) → Puts (spaced_sorts ks) (spaced_onto ks)
put_spaced_sorts [] = record { puts = λ r. refl }
put_spaced_sorts (k ∷ ks) = put_two (put_spaced (put_sort k)) (put_spaced_sorts ks)

put_logical : (b : Bool) → Puts (logical_text b) (λ r. logical_byte b ∷ r)
put_logical true = record { puts = λ r. refl }
put_logical false = record { puts = λ r. refl }

pub put_line : {a : List ℕ} {f : List ℕ → List ℕ} → Puts a f → Puts (line a) (λ r. f (10 ∷ r))
put_line p = put_two p (put_text (codes "\n"))

put_def : (n : ℕ) (d : Def) → Puts (def_text n d) (def_onto n d)
put_def n d = put_line (put_two (put_two (put_two (put_two (put_two (put_text (codes "def")) (put_spaced (put_text (number_text n)))) (put_spaced (put_logical d.logical))) (put_spaced (put_sorts d.params))) (put_spaced (put_sort d.sort))) (put_spaced (put_term d.body)))

put_defs : (n : ℕ) (ds : List Def) → Puts (defs_text n ds) (defs_onto n ds)
put_defs n [] = record { puts = λ r. refl }
put_defs n (d ∷ ds) = put_two (put_def n d) (put_defs (n + 1) ds)

put_axioms : (ts : List Tree) → Puts (axioms_text ts) (axioms_onto ts)
put_axioms [] = record { puts = λ r. refl }
put_axioms (t ∷ ts) = put_two (put_line (put_two (put_text (codes "ax")) (put_spaced (put_term t)))) (put_axioms ts)

pub put_obligation : (o : Obligation) → Puts (obligation_text o) (obligation_onto o)
put_obligation o = put_two (put_two (put_two (put_line (put_two (put_text (codes "vars")) (put_spaced_sorts o.vars))) (put_defs 0 o.defs)) (put_axioms o.axioms)) (put_line (put_two (put_text (codes "goal")) (put_spaced (put_term o.goal))))
