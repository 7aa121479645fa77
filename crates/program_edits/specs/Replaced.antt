-- The declarations that take the places of others, where an edit does nothing else.
use Rattle.std.specs.Prelude.{◌≡◌, ℕ, suc, ◌<◌, ◌||◌, ◌&&◌, Bool, true, not, is_some, cond, List, [], ◌∷◌, map, length, slice_set, Option, Some, None, option_map, Result, Ok, Err, bytes_eq}
use Rattle.std.specs.List.{AllByRecursion}
use Rattle.bpl_ast.specs.Statement.{Decl}
use Rattle.bv_base.specs.Text.{is_among}
use Rattle.request_text.specs.Request.{Put, Request, open_text, edit, status, report, sums, proofs, quit}
use Rattle.program_edits.specs.Edited.{Edited, Texts, TellsTexts, is_axiom, is_axiom_name, names, put_as}
use Rattle.program_edits.specs.declared.replaced.Replacement.{Replacement}

-- an axiom whose name is not one of axioms, or another declaration whose name is
abbrev pub is_misnamed : Decl → Bool
is_misnamed d = cond (is_axiom d.body) (not (is_axiom_name d.name)) (is_axiom_name d.name)

-- the place of the only declaration of this name, where that is not misnamed
abbrev pub only_place : List ℕ → List Decl → Option ℕ
only_place n [] = None
only_place n (d ∷ ds) = cond (bytes_eq n d.name) (cond (is_misnamed d || is_among (names ds) n) None (Some 0)) (option_map suc (only_place n ds))

-- each put's name is that of such a declaration
abbrev pub are_named : List Decl → List Put → Bool
are_named old [] = true
are_named old (p ∷ ps) = is_some (only_place p.name old) && are_named old ps

abbrev pub unless_misnamed : Decl → Option Decl
unless_misnamed d = cond (is_misnamed d) None (Some d)

-- a put that is put in, and is not misnamed
abbrev pub plain : Result Decl Edited → Option Decl
plain (Err e) = None
plain (Ok d) = unless_misnamed d

abbrev pub placed : List Decl → Option Decl → Option Replacement
placed old None = None
placed old (Some d) = option_map (λ k. record { at = k; decl = d }) (only_place d.name old)

-- the first and all others
abbrev pub with_all : Option Replacement → Option (List Replacement) → Option (List Replacement)
with_all None os = None
with_all (Some r) os = option_map (λ rs. r ∷ rs) os

abbrev pub all_placed : List Decl → List (Option Decl) → Option (List Replacement)
all_placed old [] = Some []
all_placed old (o ∷ os) = with_all (placed old o) (all_placed old os)

-- by what each text spells: only an edit without a drop is one
module _ (spelled : Texts) where
  abbrev pub plain_puts : List Put → List (Option Decl)
  plain_puts ps = map (λ (p : Put). plain (put_as p (spelled p.text))) ps

  abbrev pub replaced_by : List Decl → Request → Option (List Replacement)
  replaced_by old (edit ps []) = all_placed old (plain_puts ps)
  replaced_by old (edit ps (n ∷ ns)) = None
  replaced_by old (open_text text) = None
  replaced_by old status = None
  replaced_by old report = None
  replaced_by old sums = None
  replaced_by old proofs = None
  replaced_by old quit = None

-- the request puts these declarations in the places of others, and does nothing else; or it is no such edit
abbrev pub Replaces : List Decl → Request → Option (List Replacement) → Type 0
Replaces old r o = (spelled : Texts) × TellsTexts spelled × (replaced_by spelled old r ≡ o)

-- the declarations with these in their places, the last first
abbrev pub with_replacements : List Decl → List Replacement → List Decl
with_replacements ds [] = ds
with_replacements ds (r ∷ rs) = slice_set (with_replacements ds rs) r.at r.decl

-- each place is there
abbrev pub AreThere : List Decl → List Replacement → Type 0
AreThere ds rs = AllByRecursion (λ (r : Replacement). r.at < length ds) rs
