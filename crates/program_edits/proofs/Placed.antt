-- What the code finds of a replacement, as the clauses say it.
use Rattle.std.proofs.Common.{◌≡◌, ◌≢◌, List, Option, Some, None, IfSome, Result, Ok, Err, option_map, refl, sym}
use Rattle.bpl_ast.specs.Statement.{Decl}
use Rattle.fault_text.specs.FaultView.{SourcesAreShort}
use Rattle.request_text.specs.Request.{Request}
use Rattle.program_edits.specs.Edited.{Edited, edited, numbered, IsEdited}
use Rattle.program_edits.specs.Refusals.{RefusedBy, TextsAreShort, reading}
use Rattle.program_edits.specs.Replaced.{plain, replaced_by, with_replacements, AreThere}
use Rattle.program_edits.specs.declared.fault.EditFault.{EditFault}
use Rattle.program_edits.specs.declared.fault.EditFault.TheVariants.{Memory}
use Rattle.program_edits.specs.declared.replaced.Replacement.{Replacement}
use Rattle.program_edits.proofs.Readings.{is_edited}
use Rattle.program_edits.proofs.Steps.{sources_stay_short}
use Rattle.program_edits.proofs.Replacing.{makes}

-- what is refused is no declaration that is put in
pub plain_refused : (r : Result Decl Edited) (fault : EditFault) → RefusedBy r fault → fault ≢ Memory → None ≡ plain r
plain_refused (Ok d) fault refused some = absurd (some refused)
plain_refused (Err e) fault refused some = refl

module _ (old : List Decl) (r : Request) where
  edit_made : (rs : List Replacement) → numbered 0 old ≡ old → Some rs ≡ replaced_by reading old r → IsEdited old r (edited (with_replacements old rs))
  edit_made rs are is = is_edited old r (edited (with_replacements old rs)) (makes reading old r rs are (sym is)).1

  -- what is found, by its elements
  pub places_are : {A : Type 0} (o : Option A) (f : A → List Replacement) → numbered 0 old ≡ old → option_map f o ≡ replaced_by reading old r → IfSome o (λ v. AreThere old (f v))
  places_are None f are is = tt
  places_are (Some v) f are is = (makes reading old r (f v) are (sym is)).0

  pub edits_are : {A : Type 0} (o : Option A) (f : A → List Replacement) → numbered 0 old ≡ old → option_map f o ≡ replaced_by reading old r → IfSome o (λ v. IsEdited old r (edited (with_replacements old (f v))))
  edits_are None f are is = tt
  edits_are (Some v) f are is = edit_made (f v) are is

  pub sources_are : {A : Type 0} (o : Option A) (f : A → List Replacement) → numbered 0 old ≡ old → TextsAreShort r → option_map f o ≡ replaced_by reading old r → IfSome o (λ v. SourcesAreShort old → SourcesAreShort (with_replacements old (f v)))
  sources_are None f are short is = tt
  sources_are (Some v) f are short is = sources_stay_short old (with_replacements old (f v)) r (edit_made (f v) are is) short
