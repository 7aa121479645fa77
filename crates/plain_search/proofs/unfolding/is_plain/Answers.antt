use Rattle.std.proofs.Common.{◌≡◌, ◌∙◌, refl, sym, ap, ℕ, false, not, Some, None, List, length, arith, rules}
use Rattle.std.specs.Prelude.{slice_get}
use Rattle.std.proofs.lemmas.Option.{slice_get_read, slice_get_past}
use Rattle.logic_core.specs.Tree.{Trees, call}
use Rattle.logic_core.specs.Def.{Def}
use Rattle.logic_core.specs.View.{trees_of}
use Rattle.logic_rules.specs.Unfolding.{is_plain}
use Rattle.plain_search.proofs.unfolding.is_plain.Goals as goal

plain_as : (defs : List Def) (n : ℕ) (ts : Trees) (d : Def) → slice_get defs n ≡ Some d → is_plain defs (call n ts) ≡ not d.logical
plain_as defs n ts d found = rw found refl

not_plain : (defs : List Def) (n : ℕ) (ts : Trees) → slice_get defs n ≡ None → is_plain defs (call n ts) ≡ false
not_plain defs n ts none = rw none refl

pub returns-in-Some : goal.returns-in-Some
returns-in-Some c =
    let defs = c.args.defs.now in
    let n = c.in-Call.number in
    let def = c.in-Some.def.now in
    let is : c.args.call.now ≡ call n (trees_of c.in-Call.field-1.items) = search rules in
    let at = c.in-Some.ensures.lookup in
    let ts = trees_of c.in-Call.field-1.items in
    let same : not c.is_logical.result ≡ not def.logical = ap not c.is_logical.ensures in
    same ∙ sym (ap (is_plain defs) is ∙ plain_as defs n ts def (slice_get_read defs (length defs) n def refl (omega (arith, at.3.0)) at.1))

pub returns-in-None : goal.returns-in-None
returns-in-None c =
    let defs = c.args.defs.now in
    let n = c.in-Call.number in
    let is : c.args.call.now ≡ call n (trees_of c.in-Call.field-1.items) = search rules in
    let past = c.in-None.ensures.lookup in
    let ts = trees_of c.in-Call.field-1.items in
    sym (ap (is_plain defs) is ∙ not_plain defs n ts (slice_get_past defs n (omega (arith, past.3))))
