-- A loop that fills a map, with quantified invariants: the goals and their texts.
use Rattle.std.specs.Prelude.{◌≡◌, refl, pos, true, false, [], ◌∷◌, ◌++◌, Some, None, codes}
use Rattle.std.specs.Fmt.{digits}
use Rattle.logic_core.specs.Tree.{num, free, bound, linear, read, write, negation, all, some, equal, at_most, for_all, no_trees, tree, no_parts, part, no_patterns, pattern, int, map}
use Rattle.flow_core.specs.declared.mark.GoalKind.TheVariants as kind
use Rattle.bpl_model.specs.Module.{assign, while, no_stmts, stmt, requires, ensures, Proc, Module}
use Rattle.bpl_model.specs.TypedTest.{is_typed_module}
use Rattle.bpl_model.proofs.Spelled.{at, marked}
use Rattle.vc_build.specs.Depends.{depends}
use Rattle.vc_build.proofs.Built.{texts, marks}

abbrev pub p0 : Proc
p0 = record {
  name = codes "Fill";
  ins = (record { name = codes "n"; sort = int; own = false; clause = None } ∷ []);
  outs = (record {
    name = codes "a";
    sort = (map
        int);
    own = false;
    clause = None;
  } ∷ []);
  locals = (record { name = codes "i"; sort = int; own = false; clause = None } ∷ []);
  specs = (requires false (at 2 3) (at_most (num (pos
      0)) (free 0)) ∷ ensures false (at 3 3) (for_all (int ∷ []) (pattern (tree (read (free 1) (bound 0)) no_trees) no_patterns) (some (tree (negation
      (all (tree (at_most (num (pos 0)) (bound 0)) (tree (at_most (linear (part (pos 1) (bound 0) no_parts) (pos 1)) (free 0)) no_trees)))) (tree (equal
      (read (free 1) (bound 0)) (bound 0)) no_trees)))) ∷ []);
  body = Some (stmt (assign (at 6 3) ((2, (num (pos 0))) ∷ [])) (stmt (while (at 7 3) (Some
      (at_most (linear (part (pos 1) (free 2) no_parts) (pos 1)) (free 0))) (record {
        free = false;
        place = (at 8 5);
        formula = (all (tree (at_most (num
            (pos 0)) (free 2)) (tree (at_most (free 2) (free 0)) no_trees)));
      } ∷ record {
        free = false;
        place = (at 9 5);
        formula = (for_all (int ∷ []) (pattern
            (tree (read (free 1) (bound 0)) no_trees) no_patterns) (some (tree (negation (all (tree (at_most (num (pos 0)) (bound 0)) (tree (at_most (linear
            (part (pos 1) (bound 0) no_parts) (pos 1)) (free 2)) no_trees)))) (tree (equal (read (free 1) (bound 0)) (bound 0)) no_trees))));
      } ∷ []) (stmt
      (assign (at 11 5) ((1, (write (free 1) (free 2) (free 2))) ∷ [])) (stmt (assign (at 12 5) ((
        2,
        (linear (part (pos 1) (free 2) (part (pos 1) (num
            (pos 1)) no_parts)) (pos 0)),
      ) ∷ [])) no_stmts))) no_stmts));
}

abbrev pub m : Module
m = record {
  consts = [];
  axioms = [];
  functions = [];
  globals = [];
  procs = p0 ∷ [];
  texts = (record {
    name = codes "Fill";
    text = codes
        "procedure Fill (n: int) returns (a: [int] int)\n  requires 0 <= n;\n  ensures (forall k: int :: { a[k] } 0 <= k && k < n ==> a[k] == k);\n{\n  var i: int;\n  i := 0;\n  while (i < n)\n    invariant 0 <= i && i <= n;\n    invariant (forall k: int :: { a[k] } 0 <= k && k < i ==> a[k] == k);\n  {\n    a[i] := i;\n    i := i + 1;\n  }\n}\n";
    contract = codes
        "procedure Fill (n: int) returns (a: [int] int)\n  requires 0 <= n;\n  ensures (forall k: int :: { a[k] } 0 <= k && k < n ==> a[k] == k);\n";
    leads
        = [];
    contract_leads = [];
  } ∷ []);
}

typed : is_typed_module m ≡ true
typed = refl

marks0 : marks m p0 ≡ ((marked 8 5 kind.InvariantEntry) ∷ (marked 9 5 kind.InvariantEntry) ∷ (marked 8 5 kind.InvariantKept) ∷ (marked 9 5 kind.InvariantKept) ∷
    (marked 3 3 kind.Ensures) ∷ [])
marks0 = refl

texts0 : texts m p0 ≡ ((codes "vars i i\n"
    ++ codes "def 0 l - b (| (! (<= 0 v0)) (! (= v1 0)) (& (<= 0 v1) (<= v1 v0)))\n"
    ++ codes "goal (f0)\n") ∷ (codes "vars i i mi\n"
    ++ codes
    "def 0 l - b (| (! (<= 0 v0)) (! (= v1 0)) (! (& (<= 0 v1) (<= v1 v0))) (A i (t (r v2 k0)) (| (! (& (<= 0 k0) (<= (+ 1 k0 1) v1))) (= (r v2 k0) k0))))\n"
    ++ codes "goal (f0)\n") ∷ (codes "vars i i mi mi i i mi\n"
    ++ codes "def 0 l - b (| (! (<= (+ 1 v0 1) v1)) (! (= v2 (w v3 v0 v0))) (! (= v4 (+ 1 v0 1 1 0))) (& (<= 0 v4) (<= v4 v1)))\n"
    ++ codes "def 1 l - b (| (! (& (<= 0 v0) (<= v0 v1))) (! (A i (t (r v3 k0)) (| (! (& (<= 0 k0) (<= (+ 1 k0 1) v0))) (= (r v3 k0) k0)))) (f0))\n"
    ++ codes
    "def 2 l - b (| (! (<= 0 v1)) (! (= v5 0)) (! (& (<= 0 v5) (<= v5 v1))) (! (A i (t (r v6 k0)) (| (! (& (<= 0 k0) (<= (+ 1 k0 1) v5))) (= (r v6 k0) k0)))) (f1))\n"
    ++ codes "goal (f2)\n") ∷ (codes "vars i i mi mi i i mi\n"
    ++ codes
    "def 0 l - b (| (! (<= (+ 1 v0 1) v1)) (! (= v2 (w v3 v0 v0))) (! (= v4 (+ 1 v0 1 1 0))) (! (& (<= 0 v4) (<= v4 v1))) (A i (t (r v2 k0)) (| (! (& (<= 0 k0) (<= (+ 1 k0 1) v4))) (= (r v2 k0) k0))))\n"
    ++ codes "def 1 l - b (| (! (& (<= 0 v0) (<= v0 v1))) (! (A i (t (r v3 k0)) (| (! (& (<= 0 k0) (<= (+ 1 k0 1) v0))) (= (r v3 k0) k0)))) (f0))\n"
    ++ codes
    "def 2 l - b (| (! (<= 0 v1)) (! (= v5 0)) (! (& (<= 0 v5) (<= v5 v1))) (! (A i (t (r v6 k0)) (| (! (& (<= 0 k0) (<= (+ 1 k0 1) v5))) (= (r v6 k0) k0)))) (f1))\n"
    ++ codes "goal (f2)\n") ∷ (codes "vars mi i i i mi\n"
    ++ codes "def 0 l - b (| (A i (t (r v0 k0)) (| (! (& (<= 0 k0) (<= (+ 1 k0 1) v1))) (= (r v0 k0) k0))))\n"
    ++ codes "def 1 l - b (| (f0))\n"
    ++ codes "def 2 l - b (| (! (! (<= (+ 1 v2 1) v1))) (f1))\n"
    ++ codes "def 3 l - b (| (! (& (<= 0 v2) (<= v2 v1))) (! (A i (t (r v0 k0)) (| (! (& (<= 0 k0) (<= (+ 1 k0 1) v2))) (= (r v0 k0) k0)))) (f2))\n"
    ++ codes
    "def 4 l - b (| (! (<= 0 v1)) (! (= v3 0)) (! (& (<= 0 v3) (<= v3 v1))) (! (A i (t (r v4 k0)) (| (! (& (<= 0 k0) (<= (+ 1 k0 1) v3))) (= (r v4 k0) k0)))) (f3))\n"
    ++ codes "goal (f4)\n") ∷ [])
unfolding digits
texts0 = refl

depends0 : depends m p0 ≡ codes
    "procedure Fill (n: int) returns (a: [int] int)\n  requires 0 <= n;\n  ensures (forall k: int :: { a[k] } 0 <= k && k < n ==> a[k] == k);\n{\n  var i: int;\n  i := 0;\n  while (i < n)\n    invariant 0 <= i && i <= n;\n    invariant (forall k: int :: { a[k] } 0 <= k && k < i ==> a[k] == k);\n  {\n    a[i] := i;\n    i := i + 1;\n  }\n}\n"
unfolding digits
depends0 = refl
