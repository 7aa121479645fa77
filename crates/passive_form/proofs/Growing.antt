-- Sorts and formulas only join the end, and as many variables have incarnations.
use Rattle.std.specs.Prelude.{◌≡◌, refl, ℕ, List, [], ◌∷◌, map, length, slice_index_or}
use Rattle.std.proofs.Common.{◌∙◌}
use Rattle.std.proofs.lemmas.List.{length-set}
use Rattle.logic_core.specs.Tree.{int, Tree, free, equal}
use Rattle.flow_core.specs.declared.command.Command.{Command}
use Rattle.flow_core.specs.declared.command.Command.TheVariants.{Assert, Assume, Assign, Havoc}
use Rattle.passive_form.specs.declared.made.Made.{Made}
use Rattle.passive_form.specs.Incarnations.{read, anew, also, assigned, havocked, perform, perform_all}
use Rattle.passive_form.proofs.Lists.{Prefix, prefix_itself, prefix_next}

pub record Grows (s s' : Made) : Type 0 where
  pub sorts : Prefix s.sorts s'.sorts
  pub commands : Prefix s.commands s'.commands
  pub wide : length s'.present ≡ length s.present

pub grows_itself : (s : Made) → Grows s s
grows_itself s = record { sorts = prefix_itself s.sorts; commands = prefix_itself s.commands; wide = refl }

pub grows_next : (s t u : Made) → Grows s t → Grows t u → Grows s u
grows_next s t u p q = record {
  sorts = prefix_next s.sorts t.sorts u.sorts p.sorts q.sorts;
  commands = prefix_next s.commands t.commands u.commands p.commands q.commands;
  wide = q.wide ∙ p.wide;
}

pub grows_anew : (s : Made) (x : ℕ) → Grows s (anew s x)
grows_anew s x = record { sorts = (slice_index_or s.sorts x int ∷ [], refl); commands = prefix_itself s.commands; wide = length-set s.present x (length s.sorts) }

pub grows_also : (s : Made) (c : Command) → Grows s (also s c)
grows_also s c = record { sorts = prefix_itself s.sorts; commands = (c ∷ [], refl); wide = refl }

pub grows_assigned : (s : Made) (ps : List (ℕ × Tree)) → Grows s (assigned s ps)
grows_assigned s [] = grows_itself s
grows_assigned s (p ∷ ps) =
    let t : Made = also (anew s p.0) (Assume (equal (free (length s.sorts)) p.1)) in
    grows_next s t (assigned t ps) (grows_next s (anew s p.0) t (grows_anew s p.0) (grows_also (anew s p.0) (Assume (equal (free (length s.sorts)) p.1)))) (grows_assigned t ps)

pub grows_havocked : (s : Made) (xs : List ℕ) → Grows s (havocked s xs)
grows_havocked s [] = grows_itself s
grows_havocked s (x ∷ xs) = grows_next s (anew s x) (havocked (anew s x) xs) (grows_anew s x) (grows_havocked (anew s x) xs)

pub grows_perform : (s : Made) (c : Command) → Grows s (perform s c)
grows_perform s (Assert m E) = grows_also s (Assert m (read s.present E))
grows_perform s (Assume E) = grows_also s (Assume (read s.present E))
grows_perform s (Assign ps) = grows_assigned s (map (λ p. (p.0, read s.present p.1)) ps)
grows_perform s (Havoc xs) = grows_havocked s xs

pub grows_all : (s : Made) (cs : List Command) → Grows s (perform_all s cs)
grows_all s [] = grows_itself s
grows_all s (c ∷ cs) = grows_next s (perform s c) (perform_all (perform s c) cs) (grows_perform s c) (grows_all (perform s c) cs)
