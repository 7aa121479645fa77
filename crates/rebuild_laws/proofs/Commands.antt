-- Commands over variables that are renamed, and the same over new ones, whatever their marks.
use Rattle.std.specs.Prelude.{ℕ, List, [], ◌∷◌, ◌++◌, map}
use Rattle.std.specs.List.{AllByRecursion}
use Rattle.logic_core.specs.Tree.{Tree}
use Rattle.logic_core.specs.Renamed.{both_renamed, EachHas}
use Rattle.flow_core.specs.declared.mark.Mark.{Mark}
use Rattle.flow_core.specs.declared.command.Command.{Command}
use Rattle.flow_core.specs.declared.command.Command.TheVariants.{Assert, Assume, Assign, Havoc}
use Rattle.rebuild_laws.specs.Alike.{Sets}

module _ (new_def new_var : ℕ → ℕ) (D V : ℕ → Type 0) where
  pub data AlikeCommand : Command → Command → Type 0 where
    asserted : {m n : Mark} {E : Tree} → EachHas V D E → AlikeCommand (Assert m E) (Assert n (both_renamed new_def new_var E))
    assumed_so : {E : Tree} → EachHas V D E → AlikeCommand (Assume E) (Assume (both_renamed new_def new_var E))
    set_all : {ps : List (ℕ × Tree)} → AllByRecursion (Sets D V) ps → AlikeCommand (Assign ps) (Assign (map (λ p. (new_var p.0, both_renamed new_def new_var p.1)) ps))
    any_values : {vs : List ℕ} → AllByRecursion V vs → AlikeCommand (Havoc vs) (Havoc (map new_var vs))

  pub data AlikeCommands : List Command → List Command → Type 0 where
    no_more : AlikeCommands [] []
    one_more : {c d : Command} {cs ds : List Command} → AlikeCommand c d → AlikeCommands cs ds → AlikeCommands (c ∷ cs) (d ∷ ds)

  pub alike_both : (xs ys cs ds : List Command) → AlikeCommands xs ys → AlikeCommands cs ds → AlikeCommands (xs ++ cs) (ys ++ ds)
  alike_both _ _ cs ds no_more h = h
  alike_both _ _ cs ds (one_more {cs = xs} {ds = ys} g gs) h = one_more g (alike_both xs ys cs ds gs h)
