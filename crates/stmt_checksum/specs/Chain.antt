-- The checksums of goals: a chain of digests over a body's canonical lines, each with the declarations that its names lead to.
use Rattle.std.specs.Prelude.{ℕ, ◌+◌, nat_eq, Bool, true, false, ◌&&◌, cond, List, [], ◌∷◌, ◌++◌, map, flat_map, find, length, Option, Some, None, bytes_eq, codes}
use Rattle.sha2.specs.Sha256.{sha256}
use Rattle.bv_base.specs.declared.place.Place.{Place}
use Rattle.flow_core.specs.declared.mark.Mark.{Mark}
use Rattle.flow_core.specs.declared.mark.GoalKind.{GoalKind}
use Rattle.flow_core.specs.declared.mark.GoalKind.TheVariants.{Assert, InvariantEntry, InvariantKept, Requires, Ensures, Point}
use Rattle.bpl_ast.specs.Statement.{Decl}
use Rattle.canonical_text.specs.Lines.{Lines, lines}
use Rattle.bpl_model.specs.Module.{Module}
use Rattle.bpl_model.specs.Reach.{decl_at, reach_on}
use Rattle.bpl_scopes.specs.Scopes.{Text, Table, table_of}
use Rattle.bpl_texts.specs.Uses.{leads_of}
use Rattle.stmt_checksum.specs.Parts.{Part, parts}
use Rattle.stmt_checksum.specs.declared.chain.Link.{Link}

-- ---- the lines

-- a canonical line without its line feed, the positions of the declarations that are named in it, and the place of what is asserted there
pub record Line : Type 0 where
  pub text : List ℕ
  pub leads : List ℕ
  pub place : Option Place

abbrev pub line_of : Module → Table → List ℕ → Part → Line
line_of m t l p = record { text = l; leads = leads_of t (length m.texts) p.uses; place = p.place }

abbrev pub with_parts : Module → Table → Lines → List Part → List Line
with_parts m t [] ps = []
with_parts m t (l ∷ ls) [] = []
with_parts m t (l ∷ ls) (p ∷ ps) = line_of m t l p ∷ with_parts m t ls ps

-- the declaration with this name
abbrev pub named : List Decl → Text → Option Decl
named ds n = find (λ (d : Decl). bytes_eq d.name n) ds

abbrev pub lines_of_found : Option Decl → Lines
lines_of_found None = []
lines_of_found (Some d) = lines d.body

abbrev pub parts_of_found : Option Decl → List Part
parts_of_found None = []
parts_of_found (Some d) = parts d.body

abbrev pub implementation : Text → Text
implementation n = codes "implementation " ++ n

-- of a body in an implementation the procedure's lines come first
abbrev pub procedure_lines : List Decl → Text → Lines
procedure_lines ds n = lines_of_found (named ds n) ++ lines_of_found (named ds (implementation n))

abbrev pub procedure_parts : List Decl → Text → List Part
procedure_parts ds n = parts_of_found (named ds n) ++ parts_of_found (named ds (implementation n))

abbrev pub chain_lines : Module → List Decl → Text → List Line
chain_lines m ds n = with_parts m (table_of ds) (procedure_lines ds n) (procedure_parts ds n)

-- ---- the chain

-- all declarations that these lead to, in order; each round but the last adds one at least
abbrev pub all_led : Module → List ℕ → List ℕ
all_led m ds = reach_on m (length m.texts + 1) ds

-- the digests of their canonical texts without a body
abbrev pub contract_sums : Module → List ℕ → List ℕ
contract_sums m ds = flat_map (λ d. sha256 (decl_at m d).contract) ds

-- the chain so far, the line, and what it leads to
abbrev pub next_sum : Module → List ℕ → Line → List ℕ
next_sum m s l = sha256 (s ++ l.text ++ contract_sums m (all_led m l.leads))

-- at first the digest of no bytes
abbrev pub first_sum : List ℕ
first_sum = sha256 []

-- the chain after each line
abbrev pub links : Module → List ℕ → List Line → List Link
links m s [] = []
links m s (l ∷ ls) = record { place = l.place; sum = next_sum m s l } ∷ links m (next_sum m s l) ls

-- ---- of a goal

abbrev pub same_place : Place → Option Place → Bool
same_place p None = false
same_place p (Some q) = nat_eq p.line q.line && nat_eq p.col q.col

abbrev pub is_ensures : GoalKind → Bool
is_ensures Assert = false
is_ensures InvariantEntry = false
is_ensures InvariantKept = false
is_ensures (Requires k) = false
is_ensures Ensures = true
is_ensures (Point k) = false

-- after the last line
abbrev pub last_sum : List ℕ → List Link → List ℕ
last_sum s [] = s
last_sum s (k ∷ ks) = last_sum k.sum ks

-- after the first line with this place
abbrev pub sum_at : Place → List ℕ → List Link → List ℕ
sum_at p s [] = s
sum_at p s (k ∷ ks) = cond (same_place p k.place) k.sum (sum_at p k.sum ks)

-- after the statement's line; for ensures after the last
abbrev pub goal_sum : List Link → Mark → List ℕ
goal_sum ks g = cond (is_ensures g.kind) (last_sum first_sum ks) (sum_at g.place first_sum ks)

-- of the procedure of this name of these declarations, whose module this is
abbrev pub sum_of : Module → List Decl → Text → Mark → List ℕ
sum_of m ds n g = goal_sum (links m first_sum (chain_lines m ds n)) g
