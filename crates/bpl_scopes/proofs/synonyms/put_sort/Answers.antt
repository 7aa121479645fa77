use Rattle.std.proofs.Common.{◌≡◌, ◌∙◌, ap, sym, slice_get, slice_set, Some}
use Rattle.std.proofs.lemmas.Option.{slice_get-get_or}
use Rattle.std.proofs.lemmas.List.{map-set}
use Rattle.bpl_scopes.specs.Shape.{kind_seen}
use Rattle.bpl_scopes.specs.Sorts.{sort_after}
use Rattle.bpl_scopes.specs.KnownSorts.{known_sort, shapes_seen}
use Rattle.bpl_scopes.proofs.GuessedSorts.{put_some}
use Rattle.bpl_scopes.proofs.synonyms.put_sort.Goals as goal

pub returns-then-at-len : goal.returns-then-at-len
returns-then-at-len c =
    let t = c.args.table.now in
    let xs = c.args.sorts.now.items in
    let ks = shapes_seen xs in
    let es = c.entries.result.now in
    let e = c.in-Some.entry.now in
    let there : slice_get es c.args.at ≡ Some e = slice_get-get_or es c.args.at e c.in-Some.ensures.lookup.3.0 ∙ ap Some (sym c.in-Some.ensures.lookup.1) in
    let own : kind_seen c.in_ok-sort.sort ≡ sort_after t (known_sort t ks) e.name.now = c.in_ok-sort.ensures ∙ ap (λ l. sort_after t (known_sort t (shapes_seen l)) e.name.now) c.deref.ensures.value in
    map-set kind_seen xs c.args.at c.in_ok-sort.sort ∙ ((λ i. slice_set ks c.args.at (own i)) ∙ put_some t es e ks c.args.at c.entries.ensures there)
