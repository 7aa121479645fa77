-- A text is one thing, and it is something.
use Rattle.std.specs.Prelude.{◌≡◌, ℕ, List, Result, Ok, Err}
use Rattle.std.proofs.Common.{refl, ap, sym, ◌∙◌, inl, inr}
use Rattle.bpl_ast.specs.Statement.{Decl}
use Rattle.bpl_grammar.specs.Fault.{Fault}
use Rattle.bpl_grammar.specs.ReadPrograms.{read_text}
use Rattle.bpl_grammar.specs.ProgramLaw.{ProgramsAreExact, ProgramsAreUnique, FaultsAreFound}
use Rattle.fault_text.specs.WrittenFault.{text_fault}
use Rattle.program_opening.specs.Opening.{Opening, refused, opening, Opens}
use Rattle.program_opening.specs.Laws.{OpensOnce, OpensSomething}

-- what a text is, by what reading it gives
abbrev pub opening_of : List ℕ → Result (List Decl) Fault → Opening
opening_of text (Ok ds) = opening ds
opening_of text (Err f) = refused (text_fault text f)

found : ProgramsAreUnique → FaultsAreFound → (text : List ℕ) (o : Opening) → Opens text o → o ≡ opening_of text (read_text text)
found unique faults text o (inl s) = s.is ∙ ap (opening_of text) (sym (unique text s.decls s.spelled))
found unique faults text o (inr f) = f.is ∙ ap (opening_of text) (sym (faults text f.fault f.there))

pub opens_once : ProgramsAreUnique → FaultsAreFound → OpensOnce
opens_once unique faults text a b h k = found unique faults text a h ∙ sym (found unique faults text b k)

read : (text : List ℕ) (r : Result (List Decl) Fault) → ProgramsAreExact → read_text text ≡ r → (o : Opening) × Opens text o
read text (Ok ds) exact e = (opening ds, inl (record { decls = ds; spelled = (exact text).reads ds e; is = refl }))
read text (Err f) exact e = (refused (text_fault text f), inr (record { fault = f; there = (exact text).refuses f e; is = refl }))

pub opens_something : ProgramsAreExact → OpensSomething
opens_something exact text = read text (read_text text) exact refl
