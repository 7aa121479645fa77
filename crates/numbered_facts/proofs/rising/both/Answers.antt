use Rattle.std.proofs.Common.{◌≡◌, ◌∙◌, ◌++◌, sym, ap, drop}
use Rattle.std.proofs.lemmas.List.{append_assoc}
use Rattle.numbered_facts.proofs.Merging.{merged_rest, merged_both, rest_is}
use Rattle.numbered_facts.proofs.rising.both.Goals as goal

pub returns : goal.returns
returns c = let xs = c.args.xs.now in let ys = c.args.ys.now in let i = c.loop-x.i in let j = c.loop-x.j in let zs = c.loop-x.numbers.items in
    let first : c.extend_from_slice.new.self.items ≡ zs ++ drop i xs = c.in_ok-extend_from_slice.ensures.items ∙ ap (λ us. zs ++ us) (rest_is i xs) in
    let second : c.extend_from_slice-2.new.self.items ≡ c.extend_from_slice.new.self.items ++ drop j ys = c.in_ok-extend_from_slice-2.ensures.items ∙ ap (λ us. c.extend_from_slice.new.self.items ++ us) (rest_is j ys) in
    merged_both xs ys c.extend_from_slice-2.new.self.items c.requires.first c.requires.second
    (second ∙ ap (λ us. us ++ drop j ys) first ∙ append_assoc zs (drop i xs) (drop j ys)
    ∙ ap (λ us. zs ++ us) (sym (merged_rest xs ys i j (sym c.both_go_on.ensures ∙ c.loop-x-test.false))) ∙ c.loop-x.invariant.so_far)
