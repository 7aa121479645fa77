-- A constant, an axiom, a function, a call in a loop: the goals, their texts, and what each procedure depends on.
use Rattle.std.specs.Prelude.{◌≡◌, refl, pos, true, false, [], ◌∷◌, ◌++◌, Some, None, codes}
use Rattle.std.specs.Fmt.{digits}
use Rattle.logic_core.specs.Tree.{Tree, num, free, bound, linear, read, choose, negation, all, some, equal, at_most, for_all, no_trees, tree, no_parts, part, no_patterns, pattern, int, map}
use Rattle.flow_core.specs.declared.mark.GoalKind.TheVariants as kind
use Rattle.bpl_model.specs.Module.{Stmt, assert, assign, if_else, while, no_stmts, stmt, requires, ensures, Proc, Module}
use Rattle.bpl_model.specs.TypedTest.{is_typed_module}
use Rattle.bpl_model.proofs.Spelled.{at, marked}
use Rattle.vc_build.specs.Depends.{depends}
use Rattle.vc_build.proofs.Built.{texts, marks}

abbrev pub p0 : Proc
p0 = record {
  name = codes "Larger";
  ins = (record { name = codes "a"; sort = int; own = false; clause = None } ∷ record {
    name = codes "b";
    sort = int;
    own = false;
    clause = None;
  } ∷ []);
  outs = (record { name = codes "r"; sort = int; own = false; clause = None } ∷ []);
  locals = [];
  specs = (ensures false (at 2 3) (equal (free 3)
      (Tree.call 0 (tree (free 1) (tree (free 2) no_trees)))) ∷ []);
  body = Some (stmt (if_else (at 4 3) true (Some (at_most (linear (part (pos 1) (free 1)
      no_parts) (pos 1)) (free 2))) (stmt (assign (at 4 16) ((3, (free 2)) ∷ [])) no_stmts) (stmt (assign (at 4 33) ((3, (free 1)) ∷ [])) no_stmts))
      no_stmts);
}

abbrev pub p1 : Proc
p1 = record {
  name = codes "FindMax";
  ins = (record { name = codes "m"; sort = (map int); own = false; clause = None } ∷ record {
    name = codes "n";
    sort = int;
    own = false;
    clause = None;
  } ∷ []);
  outs = (record { name = codes "x"; sort = int; own = false; clause = None } ∷ []);
  locals = (record { name = codes "i"; sort = int; own = false; clause = None } ∷
      []);
  specs = (requires false (at 2 3) (at_most (free 0) (free 2)) ∷ ensures false (at 3 3) (for_all (int ∷ []) (pattern (tree (read (free 1) (bound
      0)) no_trees) no_patterns) (some (tree (negation (all (tree (at_most (num (pos 0)) (bound 0)) (tree (at_most (linear (part (pos 1) (bound 0)
      no_parts) (pos 1)) (free 2)) no_trees)))) (tree (at_most (read (free 1) (bound 0)) (free 3)) no_trees)))) ∷ []);
  body = Some (stmt (assign (at 6 3)
      ((3, (read (free 1) (num (pos 0)))) ∷ [])) (stmt (assign (at 7 3) ((4, (num (pos 1))) ∷ [])) (stmt (while (at 8 3) (Some (at_most (linear (part (pos
      1) (free 4) no_parts) (pos 1)) (free 2))) (record {
        free = false;
        place = (at 9 5);
        formula = (all (tree (at_most (num (pos 1)) (free 4)) (tree
            (at_most (free 4) (free 2)) no_trees)));
      } ∷ record {
        free = false;
        place = (at 10 5);
        formula = (for_all (int ∷ []) (pattern (tree (read (free 1)
            (bound 0)) no_trees) no_patterns) (some (tree (negation (all (tree (at_most (num (pos 0)) (bound 0)) (tree (at_most (linear (part (pos 1) (bound 0)
            no_parts) (pos 1)) (free 4)) no_trees)))) (tree (at_most (read (free 1) (bound 0)) (free 3)) no_trees))));
      } ∷ []) (stmt (Stmt.call (at 12 5) 0
      ((free 3) ∷ (read (free 1) (free 4)) ∷ []) (3 ∷ [])) (stmt (assign (at 13 5) ((
        4,
        (linear (part (pos 1) (free 4) (part (pos 1) (num (pos 1))
            no_parts)) (pos 0)),
      ) ∷ [])) no_stmts))) (stmt (assert (marked 15 3 kind.Assert) (at_most (read (free 1) (num (pos 0))) (free 3))) no_stmts))));
}

abbrev pub m : Module
m = record {
  consts = (record { name = codes "limit"; sort = int } ∷ []);
  axioms = ((at_most (num (pos 1)) (free 0)) ∷ []);
  functions = (record {
    name
        = codes "max";
    def = record {
      params = (int ∷ int ∷ []);
      sort = int;
      logical = false;
      body = (choose (at_most (linear (part (pos 1) (bound 1)
          no_parts) (pos 1)) (bound 0)) (bound 0) (bound 1));
    };
  } ∷ []);
  globals = [];
  procs = p0 ∷ p1 ∷ [];
  texts = (record {
    name = codes "limit";
    text =
        codes "const limit: int;\n";
    contract = codes "const limit: int;\n";
    leads = [];
    contract_leads = [];
  } ∷ record {
    name = codes "@1";
    text =
        codes "axiom 1 <= limit;\n";
    contract = codes "axiom 1 <= limit;\n";
    leads = (0 ∷ []);
    contract_leads = (0 ∷ []);
  } ∷ record {
    name = codes "max";
    text = codes "function max(a: int, b: int): int { if a < b then b else a }\n";
    contract = codes
        "function max(a: int, b: int): int { if a < b then b else a }\n";
    leads = [];
    contract_leads = [];
  } ∷ record {
    name = codes "Larger";
    text =
        codes "procedure Larger (a: int, b: int) returns (r: int)\n  ensures r == max(a, b);\n{\n  if (a < b)\n  {\n    r := b;\n  }\n  else\n  {\n    r := a;\n  }\n}\n";
    contract = codes "procedure Larger (a: int, b: int) returns (r: int)\n  ensures r == max(a, b);\n";
    leads = (2 ∷ []);
    contract_leads = (2 ∷ []);
  } ∷
      record {
        name = codes "FindMax";
        text = codes
            "procedure FindMax (m: [int] int, n: int) returns (x: int)\n  requires limit <= n;\n  ensures (forall k: int :: { m[k] } 0 <= k && k < n ==> m[k] <= x);\n{\n  var i: int;\n  x := m[0];\n  i := 1;\n  while (i < n)\n    invariant 1 <= i && i <= n;\n    invariant (forall k: int :: { m[k] } 0 <= k && k < i ==> m[k] <= x);\n  {\n    call x := Larger(x, m[i]);\n    i := i + 1;\n  }\n  assert x >= m[0];\n}\n";
        contract = codes
            "procedure FindMax (m: [int] int, n: int) returns (x: int)\n  requires limit <= n;\n  ensures (forall k: int :: { m[k] } 0 <= k && k < n ==> m[k] <= x);\n";
        leads = (0 ∷ 3 ∷ []);
        contract_leads = (0 ∷ []);
      } ∷ []);
}

typed : is_typed_module m ≡ true
typed = refl

marks0 : marks m p0 ≡ ((marked 2 3 kind.Ensures) ∷ [])
marks0 = refl

texts0 : texts m p0 ≡ ((codes "vars i i i i i\n"
    ++ codes "def 0 p ii i (? (<= (+ 1 k1 1) k0) k0 k1)\n"
    ++ codes "def 1 l - b (| (= v0 (f0 v1 v2)))\n"
    ++ codes "def 2 l - b (| (f1))\n"
    ++ codes "def 3 l - b (| (! (<= (+ 1 v1 1) v2)) (! (= v3 v2)) (! (= v0 v3)) (f2))\n"
    ++ codes "def 4 l - b (| (! (! (<= (+ 1 v1 1) v2))) (! (= v4 v1)) (! (= v0 v4)) (f2))\n"
    ++ codes "def 5 l - b (| (& (f3) (f4)))\n"
    ++ codes "goal (f5)\n") ∷ [])
unfolding digits
texts0 = refl

depends0 : depends m p0 ≡ codes
    "procedure Larger (a: int, b: int) returns (r: int)\n  ensures r == max(a, b);\n{\n  if (a < b)\n  {\n    r := b;\n  }\n  else\n  {\n    r := a;\n  }\n}\nfunction max(a: int, b: int): int { if a < b then b else a }\n"
unfolding digits
depends0 = refl

marks1 : marks m p1 ≡ ((marked 9 5 kind.InvariantEntry) ∷ (marked 10 5 kind.InvariantEntry) ∷ (marked 9 5 kind.InvariantKept) ∷ (marked 10 5 kind.InvariantKept) ∷
    (marked 15 3 kind.Assert) ∷ (marked 3 3 kind.Ensures) ∷ [])
marks1 = refl

texts1 : texts m p1 ≡ ((codes "vars i i i mi i\n"
    ++ codes "def 0 l - b (| (! (<= v0 v1)) (! (= v2 (r v3 0))) (! (= v4 1)) (& (<= 1 v4) (<= v4 v1)))\n"
    ++ codes "ax (<= 1 v0)\n"
    ++ codes "goal (f0)\n") ∷ (codes "vars i i i mi i\n"
    ++ codes
    "def 0 l - b (| (! (<= v0 v1)) (! (= v2 (r v3 0))) (! (= v4 1)) (! (& (<= 1 v4) (<= v4 v1))) (A i (t (r v3 k0)) (| (! (& (<= 0 k0) (<= (+ 1 k0 1) v4))) (<= (r v3 k0) v2))))\n"
    ++ codes "ax (<= 1 v0)\n"
    ++ codes "goal (f0)\n") ∷ (codes "vars i i i i i mi i i i i i i\n"
    ++ codes "def 0 p ii i (? (<= (+ 1 k1 1) k0) k0 k1)\n"
    ++ codes
    "def 1 l - b (| (! (<= (+ 1 v0 1) v1)) (! (= v2 v3)) (! (= v4 (r v5 v0))) (! (= v6 (f0 v2 v4))) (! (= v7 v6)) (! (= v8 (+ 1 v0 1 1 0))) (& (<= 1 v8) (<= v8 v1)))\n"
    ++ codes
    "def 2 l - b (| (! (& (<= 1 v0) (<= v0 v1))) (! (A i (t (r v5 k0)) (| (! (& (<= 0 k0) (<= (+ 1 k0 1) v0))) (<= (r v5 k0) v3)))) (f1))\n"
    ++ codes
    "def 3 l - b (| (! (<= v9 v1)) (! (= v10 (r v5 0))) (! (= v11 1)) (! (& (<= 1 v11) (<= v11 v1))) (! (A i (t (r v5 k0)) (| (! (& (<= 0 k0) (<= (+ 1 k0 1) v11))) (<= (r v5 k0) v10)))) (f2))\n"
    ++ codes "ax (<= 1 v9)\n"
    ++ codes "goal (f3)\n") ∷ (codes "vars i i i i i mi i i i i i i\n"
    ++ codes "def 0 p ii i (? (<= (+ 1 k1 1) k0) k0 k1)\n"
    ++ codes
    "def 1 l - b (| (! (<= (+ 1 v0 1) v1)) (! (= v2 v3)) (! (= v4 (r v5 v0))) (! (= v6 (f0 v2 v4))) (! (= v7 v6)) (! (= v8 (+ 1 v0 1 1 0))) (! (& (<= 1 v8) (<= v8 v1))) (A i (t (r v5 k0)) (| (! (& (<= 0 k0) (<= (+ 1 k0 1) v8))) (<= (r v5 k0) v7))))\n"
    ++ codes
    "def 2 l - b (| (! (& (<= 1 v0) (<= v0 v1))) (! (A i (t (r v5 k0)) (| (! (& (<= 0 k0) (<= (+ 1 k0 1) v0))) (<= (r v5 k0) v3)))) (f1))\n"
    ++ codes
    "def 3 l - b (| (! (<= v9 v1)) (! (= v10 (r v5 0))) (! (= v11 1)) (! (& (<= 1 v11) (<= v11 v1))) (! (A i (t (r v5 k0)) (| (! (& (<= 0 k0) (<= (+ 1 k0 1) v11))) (<= (r v5 k0) v10)))) (f2))\n"
    ++ codes "ax (<= 1 v9)\n"
    ++ codes "goal (f3)\n") ∷ (codes "vars mi i i i i i i\n"
    ++ codes "def 0 l - b (| (<= (r v0 0) v1))\n"
    ++ codes "def 1 l - b (| (! (! (<= (+ 1 v2 1) v3))) (f0))\n"
    ++ codes
    "def 2 l - b (| (! (& (<= 1 v2) (<= v2 v3))) (! (A i (t (r v0 k0)) (| (! (& (<= 0 k0) (<= (+ 1 k0 1) v2))) (<= (r v0 k0) v1)))) (f1))\n"
    ++ codes
    "def 3 l - b (| (! (<= v4 v3)) (! (= v5 (r v0 0))) (! (= v6 1)) (! (& (<= 1 v6) (<= v6 v3))) (! (A i (t (r v0 k0)) (| (! (& (<= 0 k0) (<= (+ 1 k0 1) v6))) (<= (r v0 k0) v5)))) (f2))\n"
    ++ codes "ax (<= 1 v4)\n"
    ++ codes "goal (f3)\n") ∷ (codes "vars mi i i i i i i\n"
    ++ codes "def 0 l - b (| (A i (t (r v0 k0)) (| (! (& (<= 0 k0) (<= (+ 1 k0 1) v1))) (<= (r v0 k0) v2))))\n"
    ++ codes "def 1 l - b (| (! (<= (r v0 0) v2)) (f0))\n"
    ++ codes "def 2 l - b (| (! (! (<= (+ 1 v3 1) v1))) (f1))\n"
    ++ codes
    "def 3 l - b (| (! (& (<= 1 v3) (<= v3 v1))) (! (A i (t (r v0 k0)) (| (! (& (<= 0 k0) (<= (+ 1 k0 1) v3))) (<= (r v0 k0) v2)))) (f2))\n"
    ++ codes
    "def 4 l - b (| (! (<= v4 v1)) (! (= v5 (r v0 0))) (! (= v6 1)) (! (& (<= 1 v6) (<= v6 v1))) (! (A i (t (r v0 k0)) (| (! (& (<= 0 k0) (<= (+ 1 k0 1) v6))) (<= (r v0 k0) v5)))) (f3))\n"
    ++ codes "ax (<= 1 v4)\n"
    ++ codes "goal (f4)\n") ∷ [])
unfolding digits
texts1 = refl

depends1 : depends m p1 ≡ codes
    "procedure FindMax (m: [int] int, n: int) returns (x: int)\n  requires limit <= n;\n  ensures (forall k: int :: { m[k] } 0 <= k && k < n ==> m[k] <= x);\n{\n  var i: int;\n  x := m[0];\n  i := 1;\n  while (i < n)\n    invariant 1 <= i && i <= n;\n    invariant (forall k: int :: { m[k] } 0 <= k && k < i ==> m[k] <= x);\n  {\n    call x := Larger(x, m[i]);\n    i := i + 1;\n  }\n  assert x >= m[0];\n}\nconst limit: int;\naxiom 1 <= limit;\nfunction max(a: int, b: int): int { if a < b then b else a }\nprocedure Larger (a: int, b: int) returns (r: int)\n  ensures r == max(a, b);\n"
unfolding digits
depends1 = refl
