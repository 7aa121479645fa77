-- What the types of the code stand for.
use Rattle.std.specs.Prelude.{◌≡◌, Vec, List, [], ◌∷◌, ◌++◌, map, take, drop, length}
use Rattle.std.specs.declared.alloc.Global.{Global}
use Rattle.bpl_ast.specs.Statement.{Decl}
use Rattle.bpl_model.specs.Module.{Proc, Module}
use Rattle.bpl_resolve.specs.Elaborate.{module_of}
use Rattle.bpl_sorts.specs.Types.{Ty, integers, truths, carriers, maps, Head}
use Rattle.bpl_sorts.specs.DeclaredTypes.{ProcTypes, Types}
use Rattle.bpl_sorts.specs.TypedModule.{HasTypes}
use Rattle.user_types.specs.Erased.{axioms_after, erased}
use Rattle.bpl_sorts.specs.declared.value_types.Ty.{Ty as Answered, Int, Bool, User, Map'}
use Rattle.bpl_sorts.specs.declared.value_types.Types.{Types as AllAnswered}

abbrev pub ty_seen : Answered → Ty
ty_seen Int = integers
ty_seen Bool = truths
ty_seen (User k) = carriers k
ty_seen (Map' p t) = maps (ty_seen t)

abbrev pub tys_seen : List Answered → List Ty
tys_seen ts = map ty_seen ts

abbrev pub head_seen : Vec Answered Global × Answered → Head
head_seen h = (tys_seen h.0.items, ty_seen h.1)

abbrev pub heads_seen : List (Vec Answered Global × Answered) → List Head
heads_seen hs = map head_seen hs

abbrev pub lists_seen : List (Vec Answered Global) → List (List Ty)
lists_seen vs = map (λ v. tys_seen v.items) vs

-- the types of a procedure's parameters and locals, in one list
abbrev pub in_one_list : ProcTypes → List Ty
in_one_list p = p.ins ++ (p.outs ++ p.locals)

-- these types
pub record IsListed (T : Types) (a : AllAnswered) : Type 0 where
  pub consts : tys_seen a.consts.items ≡ T.consts
  pub globals : tys_seen a.globals.items ≡ T.globals
  pub functions : heads_seen a.funcs.items ≡ T.functions
  pub procs : lists_seen a.procs.items ≡ map in_one_list T.procs

-- ---- which of a list's types are those of parameters, and which those of locals, tells the procedure

abbrev pub split_by : Proc → List Ty → ProcTypes
split_by q ts = record { ins = take (length q.ins) ts; outs = take (length q.outs) (drop (length q.ins) ts); locals = drop (length q.outs) (drop (length q.ins) ts) }

abbrev pub each_split : List Proc → List (List Ty) → List ProcTypes
each_split [] tss = []
each_split (q ∷ qs) [] = []
each_split (q ∷ qs) (ts ∷ tss) = split_by q ts ∷ each_split qs tss

abbrev pub types_in : Module → AllAnswered → Types
types_in m a = record { consts = tys_seen a.consts.items; globals = tys_seen a.globals.items; functions = heads_seen a.funcs.items; procs = each_split m.procs (lists_seen a.procs.items) }

-- Each expression of the program's own declarations has its type, where these are the types of what is declared; the module's further axioms say which carriers its unique constants are.
pub record AreItsTypes (ds : List Decl) (a : AllAnswered) : Type 0 where
  pub as_many : length a.procs.items ≡ length (module_of (erased ds)).procs
  pub typed : HasTypes (types_in (module_of (erased ds)) a) (axioms_after 0 ds) (module_of (erased ds))
