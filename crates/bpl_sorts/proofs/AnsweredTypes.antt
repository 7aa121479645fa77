-- The answered types are those of what is declared: a procedure tells which in its list are those of its parameters and locals.
use Rattle.std.proofs.Common.{◌≡◌, refl, sym, ap, ◌∙◌, subst, ℕ, ◌++◌, List, [], ◌∷◌, map, take, drop, length, suc}
use Rattle.std.specs.List.{AllZip}
use Rattle.std.proofs.lemmas.List.{take_at, drop_at}
use Rattle.bpl_resolve.proofs.ProcedureVariables.{map_length}
use Rattle.bpl_ast.specs.Statement.{Decl}
use Rattle.bpl_model.specs.Module.{Local, Proc, Module}
use Rattle.bpl_model.specs.Numbering.{local_sorts}
use Rattle.bpl_resolve.specs.Elaborate.{module_of}
use Rattle.bpl_sorts.specs.Types.{Ty, kind_of, kinds_of}
use Rattle.bpl_sorts.specs.DeclaredTypes.{ProcTypes, Types, declared_types}
use Rattle.user_types.specs.Erased.{axioms_after, erased}
use Rattle.bpl_sorts.specs.TypedModule.{IsTypedProc, HasTypes}
use Rattle.bpl_sorts.specs.TypedModules.{HasDeclaredTypes}
use Rattle.bpl_sorts.specs.TypesView.{tys_seen, lists_seen, in_one_list, IsListed, split_by, each_split, types_in, AreItsTypes}
use Rattle.bpl_sorts.specs.declared.value_types.Types.{Types as Answered}

as_long : (ts : List Ty) (ls : List Local) → kinds_of ts ≡ local_sorts ls → length ts ≡ length ls
as_long ts ls e = sym (map_length kind_of ts) ∙ (ap length e ∙ map_length (λ (l : Local). l.sort) ls)

split_back : (T : Types) (p : ProcTypes) (q : Proc) → IsTypedProc T p q → split_by q (in_one_list p) ≡ p
split_back T p q h =
    let i = as_long p.ins q.ins h.ins in
    let o = as_long p.outs q.outs h.outs in
    let rest : drop (length q.ins) (in_one_list p) ≡ p.outs ++ p.locals = drop_at p.ins (p.outs ++ p.locals) (length q.ins) i in
    let ins : take (length q.ins) (in_one_list p) ≡ p.ins = take_at p.ins (p.outs ++ p.locals) (length q.ins) i in
    let outs : take (length q.outs) (drop (length q.ins) (in_one_list p)) ≡ p.outs = ap (take (length q.outs)) rest ∙ take_at p.outs p.locals (length q.outs) o in
    let locals : drop (length q.outs) (drop (length q.ins) (in_one_list p)) ≡ p.locals = ap (drop (length q.outs)) rest ∙ drop_at p.outs p.locals (length q.outs) o in
    λ j. record { ins = ins j; outs = outs j; locals = locals j }

each_back : (T : Types) (ps : List ProcTypes) (qs : List Proc) → AllZip (IsTypedProc T) ps qs → each_split qs (map in_one_list ps) ≡ ps
each_back T [] [] h = refl
each_back T [] (q ∷ qs) h = absurd h
each_back T (p ∷ ps) [] h = absurd h
each_back T (p ∷ ps) (q ∷ qs) h = λ i. split_back T p q h.0 i ∷ each_back T ps qs h.1 i

as_many : (T : Types) (ps : List ProcTypes) (qs : List Proc) → AllZip (IsTypedProc T) ps qs → length ps ≡ length qs
as_many T [] [] h = refl
as_many T [] (q ∷ qs) h = absurd h
as_many T (p ∷ ps) [] h = absurd h
as_many T (p ∷ ps) (q ∷ qs) h = ap suc (as_many T ps qs h.1)

module _ (T : Types) (n : ℕ) (m : Module) (a : Answered) (l : IsListed T a) (h : HasTypes T n m) where
  same_types : types_in m a ≡ T
  same_types = λ i. record { consts = l.consts i; globals = l.globals i; functions = l.functions i; procs = (ap (each_split m.procs) l.procs ∙ each_back T T.procs m.procs h.procs) i }

  its_types : HasTypes (types_in m a) n m
  its_types = subst (λ U. HasTypes U n m) (sym same_types) h

  lists_many : length a.procs.items ≡ length m.procs
  lists_many = sym (map_length (λ v. tys_seen v.items) a.procs.items) ∙ (ap length l.procs ∙ (map_length in_one_list T.procs ∙ as_many T T.procs m.procs h.procs))

pub answered : (ds : List Decl) (a : Answered) → HasDeclaredTypes ds → IsListed (declared_types ds) a → AreItsTypes ds a
answered ds a h l = record {
  as_many = lists_many (declared_types ds) (axioms_after 0 ds) (module_of (erased ds)) a l h;
  typed = its_types (declared_types ds) (axioms_after 0 ds) (module_of (erased ds)) a l h;
}
