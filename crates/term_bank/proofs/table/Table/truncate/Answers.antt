use Rattle.std.proofs.Common.{◌≡◌, ◌∙◌, ◌<◌, ap, sym, subst, length, take}
use Rattle.std.specs.List.{All}
use Rattle.term_bank.specs.declared.table.Entry.{Entry}
use Rattle.term_bank.specs.Tabled.{Tabled}
use Rattle.term_bank.specs.Table.{tabled}
use Rattle.term_bank.proofs.Tables.{first_within, terms_fewer, fewer_entries}
use Rattle.term_bank.proofs.table.Table.truncate.Goals as goal

pub reached-places-requires : goal.reached-places-requires
reached-places-requires c = subst (λ k. All (λ (e : Entry). e.place < k) c.deref.result.now) (sym c.len.ensures)
    (first_within c.self.inside.entries.items c.truncate.new.self.items c.deref.result.now c.args.len (length c.self.inside.places) c.self.invariant.within c.truncate.ensures.items c.deref.ensures.value)

pub invariant_of-self : goal.invariant_of-self
invariant_of-self c =
    let w = first_within c.self.inside.entries.items c.truncate.new.self.items c.deref.result.now c.args.len (length c.self.inside.places) c.self.invariant.within c.truncate.ensures.items c.deref.ensures.value in
    fewer_entries c.self.inside.places c.truncate-3.new.self c.self.inside.entries.items c.truncate.new.self.items c.self.inside.index c.truncate-2.new.self c.args.len c.reached-places.result c.self.invariant
    c.truncate.ensures.items c.truncate-2.ensures c.truncate-3.ensures (c.reached-places.ensures.least (length c.self.inside.places) w)
    (subst (All (λ (e : Entry). e.place < c.reached-places.result)) c.deref.ensures.value c.reached-places.ensures.each)

pub returns : goal.returns
returns c =
    let v : tabled c.self.inside ≡ c.args.self.now = c.self.view_is in
    let w = first_within c.self.inside.entries.items c.truncate.new.self.items c.deref.result.now c.args.len (length c.self.inside.places) c.self.invariant.within c.truncate.ensures.items c.deref.ensures.value in
    terms_fewer c.self.inside.places c.truncate-3.new.self c.self.inside.entries.items c.truncate.new.self.items c.self.inside.index c.truncate-2.new.self c.args.len c.reached-places.result c.self.invariant
    c.truncate.ensures.items c.truncate-2.ensures c.truncate-3.ensures (c.reached-places.ensures.least (length c.self.inside.places) w)
    (subst (All (λ (e : Entry). e.place < c.reached-places.result)) c.deref.ensures.value c.reached-places.ensures.each)
    ∙ ap (λ (d : Tabled). take c.args.len d.terms) v
