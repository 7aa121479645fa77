use Rattle.std.proofs.Common.{◌∙◌, ◌++◌, ◌∷◌, [], ap, nat_eq, arith}
use Rattle.std.specs.List.{list_any}
use Rattle.numbered_facts.proofs.Indexes.{members_few, members_many}
use Rattle.numbered_facts.proofs.numbers.Members.push.Goals as goal

pub invariant_of-self-then-len-lt-FEW : goal.invariant_of-self-then-len-lt-FEW
invariant_of-self-then-len-lt-FEW c = members_few c.self.inside.members.items c.push.new.self.items c.self.inside.index.keys c.args.id c.self.invariant (ap (list_any (nat_eq c.args.id)) c.self.view_is ∙ c.requires)
    c.in_ok-push.ensures.items (omega (arith, c.if-len-lt-FEW.true, c.len.ensures))

pub invariant_of-self-2 : goal.invariant_of-self-2
invariant_of-self-2 c = members_many c.self.inside.members.items c.put_member.new.members.items c.look_up.new.index.keys c.list_one.new.index.keys c.args.id c.self.invariant.once (ap (list_any (nat_eq c.args.id)) c.self.view_is ∙ c.requires)
    (c.put_member.ensures ∙ ap (λ xs. xs ++ c.args.id ∷ []) c.reserve.ensures.items) (c.in_ok-look_up.ensures.ok ∙ c.deref.ensures.value ∙ c.reserve.ensures.items) c.in_ok-list_one.ensures.ok
