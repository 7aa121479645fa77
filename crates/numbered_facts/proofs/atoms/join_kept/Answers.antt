use Rattle.std.proofs.Common.{◌≡◌, ◌∙◌, sym, subst, ℕ, Vec, Some, None}
use Rattle.std.specs.declared.alloc.Global.{Global}
use Rattle.std.proofs.lemmas.Result.{IfOk-weaker}
use Rattle.numbered_terms.specs.Slots.{kept_at}
use Rattle.numbered_facts.specs.Atoms.{IsRising, AreBoth}
use Rattle.numbered_facts.proofs.atoms.join_kept.Goals as goal

pub both-requires-clause-first : goal.both-requires-clause-first
both-requires-clause-first c = subst IsRising (sym c.deref.ensures.value) c.requires.rising

pub both-requires-clause-second : goal.both-requires-clause-second
both-requires-clause-second c = subst IsRising (sym c.deref-in-Some.ensures.value) (c.requires.right c.args.id c.in-Some.more.now (sym c.in-Some.ensures)).rising

pub returns-in-Some : goal.returns-in-Some
returns-in-Some c = let slots = c.args.memo.now.slots.items in
    IfOk-weaker c.both.result (λ (v : Vec ℕ Global). AreBoth c.deref.result.now c.deref-in-Some.result.now v.items) (λ (v : Vec ℕ Global). (w : Vec ℕ Global) → kept_at slots c.args.id ≡ Some w → AreBoth c.args.found.items w.items v.items)
    (λ v h w e. let same : Some c.in-Some.more.now ≡ Some w = c.in-Some.ensures ∙ e in let one : c.in-Some.more.now ≡ w = cc in
    subst (λ xs. AreBoth xs w.items v.items) c.deref.ensures.value (subst (λ ys. AreBoth c.deref.result.now ys v.items) (c.deref-in-Some.ensures.value ∙ (λ k. (one k).items)) h)) c.both.ensures

pub returns-in-None : goal.returns-in-None
returns-in-None c = λ w e. let no : None ≡ Some w = c.in-None.ensures ∙ e in absurd (cc)
