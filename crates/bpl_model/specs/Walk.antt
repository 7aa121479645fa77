-- What names reach, by marks: each declaration that is reached leads on once.
use Rattle.std.specs.Prelude.{ℕ, nat_eq, Bool, ◌&&◌, cond, List, [], ◌∷◌, ◌++◌, map, length, filter, slice_index_or, slice_set, codes, bytes_eq, Vec}
use Rattle.std.specs.declared.alloc.Global.{Global}
use Rattle.std.specs.List.{list_any, flat_map}
use lib.ListN.{replicate}
use Rattle.bpl_model.specs.Module.{Name, DeclText}
use Rattle.bpl_model.specs.Marking.{Marking, unmarked, mark_all, follow, follow_on}

abbrev pub text_at : List DeclText → ℕ → DeclText
text_at ts d = slice_index_or ts d (record { name = []; text = []; contract = []; leads = []; contract_leads = [] })

-- whether the declaration has one of these names
abbrev pub is_at : List DeclText → List Name → ℕ → Bool
is_at ts ns d = list_any (bytes_eq (text_at ts d).name) ns

-- the lists of each vector
abbrev pub rows_of : List (Vec ℕ Global) → List (List ℕ)
rows_of vs = map (λ v. v.items) vs

abbrev pub row : List (List ℕ) → ℕ → List ℕ
row T r = slice_index_or T r []

abbrev pub with_entry : List (List ℕ) → ℕ → ℕ → List (List ℕ)
with_entry T r d = slice_set T r (row T r ++ d ∷ [])

-- over the declarations, the names of constants and functions, and those of axioms
module _ (ts : List DeclText) (symbols : List Name) where
  abbrev pub with_mention : ℕ → List (List ℕ) → ℕ → List (List ℕ)
  with_mention d T l = cond (is_at ts symbols l) (with_entry T l d) T

  -- d stands in the row of each constant or function that it names
  abbrev pub with_mentions : ℕ → List (List ℕ) → List ℕ → List (List ℕ)
  with_mentions d T [] = T
  with_mentions d T (l ∷ ls) = with_mentions d (with_mention d T l) ls

  abbrev pub names_none : List ℕ → Bool
  names_none ls = nat_eq (length (filter (is_at ts symbols) ls)) 0

  module _ (axioms : List Name) where
    abbrev pub with_axiom : List (List ℕ) → ℕ → List (List ℕ)
    with_axiom T d = cond (is_at ts axioms d) (with_mentions d T (text_at ts d).leads) T

    abbrev pub with_axioms : List (List ℕ) → List ℕ → List (List ℕ)
    with_axioms T [] = T
    with_axioms T (d ∷ ds) = with_axioms (with_axiom T d) ds

    -- the axioms that name each
    abbrev pub mention_rows : List ℕ → List (List ℕ)
    mention_rows ds = with_axioms (replicate (length ts) []) ds

    -- an axiom that names no constant and no function
    abbrev pub is_free : ℕ → Bool
    is_free d = is_at ts axioms d && names_none (text_at ts d).leads

-- what a reached declaration leads to
abbrev pub on : List DeclText → List (List ℕ) → ℕ → List ℕ
on ts T r = (text_at ts r).contract_leads ++ row T r

-- what the declarations of this name lead to
abbrev pub leads_of : List DeclText → List ℕ → Name → List ℕ
leads_of ts ds n = flat_map (λ d. (text_at ts d).leads) (filter (λ d. bytes_eq n (text_at ts d).name) ds)

-- what the procedure's own declarations lead to
abbrev pub own_leads : List DeclText → List ℕ → Name → List ℕ
own_leads ts ds n = leads_of ts ds n ++ leads_of ts ds (codes "implementation " ++ n)

-- the first round, in which the free axioms are reached, and then the others
abbrev pub walk : List DeclText → List (List ℕ) → List ℕ → List ℕ → Marking
walk ts T own free =
    let first = mark_all (unmarked (length ts)) own in
    follow_on (on ts T) (length ts) (mark_all (follow (on ts T) first) free)
