use Rattle.std.proofs.Common.{◌≡◌, ◌∙◌, ap, List, [], ◌∷◌, ◌++◌}
use Rattle.term_bank.specs.declared.table.Entry.{Entry}
use Rattle.term_bank.proofs.Tables.{seen_entry}
use Rattle.term_bank.proofs.table.Table.push.Goals as goal

pub invariant_of-self-2 : goal.invariant_of-self-2
invariant_of-self-2 c =
    let e : Entry = record { node = c.args.node; place = c.args.place } in
    let r : c.reserve.new.self.items ≡ c.self.inside.entries.items = c.in_ok-reserve.ensures.items in
    seen_entry c.args.self.now c.self.inside.places c.self.inside.entries.items c.put_entry.new.entries.items c.self.inside.index c.push.new.self e c.args.hash c.self.view_is c.self.invariant
    c.requires.within c.requires.node c.requires.lower c.requires.new c.requires.hash (c.put_entry.ensures ∙ ap (λ (xs : List Entry). xs ++ e ∷ []) r) c.in_ok-push.ensures.ok
