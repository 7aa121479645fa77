use Rattle.std.proofs.Common.{◌≡◌, ℕ, ◌∙◌, ap, sym, subst, map, OnOk}
use Rattle.logic_core.specs.Tree.{Tree}
use Rattle.passive_form.specs.Incarnations.{read, assigned, perform}
use Rattle.passive_form.proofs.made.Made.perform.Goals as goal

pub returns-in_ok-pairs-in-Assign : goal.returns-in_ok-pairs-in-Assign
returns-in_ok-pairs-in-Assign c =
    let read_now : (ℕ × Tree) → ℕ × Tree = λ p. (p.0, read c.args.self.now.present p.1) in
    let pairs : c.in_ok-pairs-in-Assign.pairs.items ≡ map read_now c.in-Assign.pairs = c.in_ok-pairs-in-Assign.ensures ∙ ap (map read_now) c.as_slice.ensures in
    subst (λ m. OnOk c.assigned.result (c.assigned.new.self ≡ m)) (ap (assigned c.args.self.now) pairs ∙ sym (ap (perform c.args.self.now) c.in-Assign.is)) c.assigned.ensures
