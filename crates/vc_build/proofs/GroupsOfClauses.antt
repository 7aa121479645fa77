-- Groups of variables with clauses, of globals, parameters and locals, with calls, havocs and a loop: the goals, their texts, and what each procedure depends on.
use Rattle.std.specs.Prelude.{◌≡◌, refl, pos, true, false, [], ◌∷◌, ◌++◌, Some, None, codes}
use Rattle.std.specs.Fmt.{digits}
use Rattle.logic_core.specs.Tree.{num, free, linear, equal, at_most, no_parts, part, int}
use Rattle.flow_core.specs.declared.mark.GoalKind.TheVariants as kind
use Rattle.bpl_model.specs.Module.{Stmt, assert, havoc, while, no_stmts, stmt, requires, ensures, modifies, Proc, Module}
use Rattle.bpl_model.specs.TypedTest.{is_typed_module}
use Rattle.bpl_model.proofs.Spelled.{at, marked}
use Rattle.vc_build.specs.Depends.{depends}
use Rattle.vc_build.proofs.Built.{texts, marks}

abbrev p0 : Proc
p0 = record {
  name = codes "Q";
  ins = (record {
    name = codes "a";
    sort = int;
    own = false;
    clause = (Some (at_most (linear (part (pos 1) (free 1) no_parts) (pos 1)) (free 7)));
  }
      ∷ []);
  outs = (record {
    name = codes "r";
    sort = int;
    own = false;
    clause = (Some (at_most (linear
        (part (pos 1) (linear (part (pos 1) (free 7) (part (pos 1) (free 1) no_parts)) (pos 0)) no_parts) (pos 1))
        (linear (part (pos 1) (free 8) (part (pos 1) (free 9) no_parts)) (pos 0))));
  }
      ∷ record {
        name = codes "s";
        sort = int;
        own = false;
        clause = (Some (at_most (linear
            (part (pos 1) (linear (part (pos 1) (free 7) (part (pos 1) (free 1) no_parts)) (pos 0)) no_parts) (pos 1))
            (linear (part (pos 1) (free 8) (part (pos 1) (free 9) no_parts)) (pos 0))));
      }
      ∷ []);
  locals = [];
  specs = (requires false (at 2 3) (at_most (linear (part (pos 1) (num (pos 2)) no_parts) (pos 1)) (free 7))
      ∷ modifies (1 ∷ 2 ∷ [])
      ∷ ensures false (at 4 3) (equal (free 1) (linear (part (pos 1) (free 4) (part (pos 1) (free 6) no_parts)) (pos 0)))
      ∷ []);
  body = None;
}

abbrev p1 : Proc
p1 = record {
  name = codes "P";
  ins = [];
  outs = [];
  locals = (record {
    name = codes "x";
    sort = int;
    own = false;
    clause = (Some (at_most (linear (part (pos 1) (free 7) no_parts) (pos 1)) (free 8)));
  }
      ∷ record {
        name = codes "y";
        sort = int;
        own = false;
        clause = (Some (at_most (linear (part (pos 1) (free 7) no_parts) (pos 1)) (free 8)));
      }
      ∷ record {
        name = codes "z";
        sort = int;
        own = false;
        clause = (Some (at_most (linear (part (pos 1) (free 0) no_parts) (pos 1)) (free 9)));
      }
      ∷ []);
  specs = (modifies (1 ∷ 2 ∷ []) ∷ []);
  body = Some (stmt (Stmt.call (at 4 3) 0 ((free 1) ∷ []) (7 ∷ 8 ∷ [])) (stmt
      (assert (marked 5 3 kind.Assert) (at_most (linear (part (pos 1) (free 1) no_parts) (pos 1)) (free 2))) (stmt
      (havoc (at 6 3) (1 ∷ 7 ∷ [])) (stmt
      (assert (marked 7 3 kind.Assert) (at_most (linear (part (pos 1) (free 7) no_parts) (pos 1)) (free 8))) (stmt (while (at 8 3)
      (Some (at_most (linear (part (pos 1) (free 7) no_parts) (pos 1)) (num (pos 10)))) (record {
        free = false;
        place = (at 8 18);
        formula = (at_most (linear (part (pos 1) (num (pos 1)) no_parts) (pos 1)) (free 9));
      }
      ∷ []) (stmt (Stmt.call (at 8 37) 0 ((free 7) ∷ []) (8 ∷ 7 ∷ [])) (stmt (havoc (at 8 56) (9 ∷ [])) no_stmts)))
      (stmt (assert (marked 9 3 kind.Assert) (at_most (linear (part (pos 1) (free 9) no_parts) (pos 1)) (free 2))) no_stmts))))));
}

abbrev m : Module
m = record {
  consts = (record { name = codes "c"; sort = int } ∷ []);
  axioms = ((at_most (linear (part (pos 1) (num (pos 1)) no_parts) (pos 1)) (free 0)) ∷ []);
  functions = [];
  globals = (record { name = codes "g"; sort = int; clause = None }
      ∷ record { name = codes "h"; sort = int; clause = (Some (at_most (linear (part (pos 1) (free 1) no_parts) (pos 1)) (free 2))) }
      ∷ record { name = codes "k"; sort = int; clause = (Some (at_most (linear (part (pos 1) (num (pos 0)) no_parts) (pos 1)) (free 3))) }
      ∷ []);
  procs = p0 ∷ p1 ∷ [];
  texts = (record {
    name = codes "g";
    text = codes "var g: int, h: int where h > g;\n";
    contract = codes "var g: int, h: int where h > g;\n";
    leads = (0 ∷ []);
    contract_leads = (0 ∷ []);
  }
      ∷ record {
        name = codes "k";
        text = codes "var k: int where k > 0;\n";
        contract = codes "var k: int where k > 0;\n";
        leads = (1 ∷ []);
        contract_leads = (1 ∷ []);
      }
      ∷ record {
        name = codes "c";
        text = codes "const c: int;\n";
        contract = codes "const c: int;\n";
        leads = [];
        contract_leads = [];
      }
      ∷ record {
        name = codes "@1";
        text = codes "axiom c > 1;\n";
        contract = codes "axiom c > 1;\n";
        leads = (2 ∷ []);
        contract_leads = (2 ∷ []);
      }
      ∷ record {
        name = codes "Q";
        text = codes
            "procedure Q (a: int where a > g) returns (r, s: int where r + s > a + g);\n  requires a > 2;\n  modifies g, h;\n  ensures g == old (g) + old (k);\n";
        contract = codes
            "procedure Q (a: int where a > g) returns (r, s: int where r + s > a + g);\n  requires a > 2;\n  modifies g, h;\n  ensures g == old (g) + old (k);\n";
        leads = (0 ∷ 1 ∷ []);
        contract_leads = (0 ∷ 1 ∷ []);
      }
      ∷ record {
        name = codes "P";
        text = codes
            "procedure P ()\n  modifies g, h;\n{\n  var x, y: int where x < y;\n  var z: int where z > c;\n  call x, y := Q(g);\n  assert h > g;\n  havoc g, x;\n  assert x < y;\n  while (x < 10)\n    invariant z > 1;\n  {\n    call y, x := Q(x);\n    havoc z;\n  }\n  assert h > z;\n}\n";
        contract = codes "procedure P ()\n  modifies g, h;\n";
        leads = (0 ∷ 2 ∷ 4 ∷ []);
        contract_leads = (0 ∷ []);
      }
      ∷ []);
}

typed : is_typed_module m ≡ true
typed = refl

marks1 : marks m p1 ≡ ((marked 4 3 (kind.Requires 1)) ∷ (marked 5 3 kind.Assert) ∷ (marked 7 3 kind.Assert) ∷ (marked 8 18 kind.InvariantEntry) ∷ (marked 8 37 (kind.Requires 1)) ∷ (marked 8 18 kind.InvariantKept) ∷ (marked 9 3 kind.Assert) ∷ [])
unfolding digits
marks1 = refl

texts1 : texts m p1 ≡ ((codes "vars i i i i i i i i\n"
    ++ codes "def 0 l - b (| (! (<= (+ 1 v0 1) v1)) (! (<= (+ 1 0 1) v2)) (! (<= (+ 1 v3 1) v4)) (! (<= (+ 1 v3 1) v4)) (! (<= (+ 1 v5 1) v6)) (! (= v7 v0)) (<= (+ 1 2 1) v7))\n"
    ++ codes "ax (<= (+ 1 1 1) v5)\n"
    ++ codes "goal (f0)\n") ∷ (codes "vars i i i i i i i i i i i i i i i i\n"
    ++ codes "def 0 l - b (| (! (<= (+ 1 v0 1) v1)) (! (<= (+ 1 0 1) v2)) (! (<= (+ 1 v3 1) v4)) (! (<= (+ 1 v3 1) v4)) (! (<= (+ 1 v5 1) v6)) (! (= v7 v0)) (! (<= (+ 1 2 1) v7)) (! (= v8 v0)) (! (= v9 v1)) (! (<= (+ 1 v10 1) v11)) (! (<= (+ 1 (+ 1 v7 1 v10 0) 1) (+ 1 v12 1 v13 0))) (! (<= (+ 1 (+ 1 v7 1 v10 0) 1) (+ 1 v12 1 v13 0))) (! (= v10 (+ 1 v8 1 v2 0))) (! (= v14 v12)) (! (= v15 v13)) (<= (+ 1 v10 1) v11))\n"
    ++ codes "ax (<= (+ 1 1 1) v5)\n"
    ++ codes "goal (f0)\n") ∷ (codes "vars i i i i i i i i i i i i i i i i i\n"
    ++ codes "def 0 l - b (| (! (<= (+ 1 v0 1) v1)) (! (<= (+ 1 0 1) v2)) (! (<= (+ 1 v3 1) v4)) (! (<= (+ 1 v3 1) v4)) (! (<= (+ 1 v5 1) v6)) (! (= v7 v0)) (! (<= (+ 1 2 1) v7)) (! (= v8 v0)) (! (= v9 v1)) (! (<= (+ 1 v10 1) v11)) (! (<= (+ 1 (+ 1 v7 1 v10 0) 1) (+ 1 v12 1 v13 0))) (! (<= (+ 1 (+ 1 v7 1 v10 0) 1) (+ 1 v12 1 v13 0))) (! (= v10 (+ 1 v8 1 v2 0))) (! (= v14 v12)) (! (= v15 v13)) (! (<= (+ 1 v10 1) v11)) (! (<= (+ 1 v16 1) v15)) (<= (+ 1 v16 1) v15))\n"
    ++ codes "ax (<= (+ 1 1 1) v5)\n"
    ++ codes "goal (f0)\n") ∷ (codes "vars i i i i i i i i i i i i i i i i i\n"
    ++ codes "def 0 l - b (| (! (<= (+ 1 v0 1) v1)) (! (<= (+ 1 0 1) v2)) (! (<= (+ 1 v3 1) v4)) (! (<= (+ 1 v3 1) v4)) (! (<= (+ 1 v5 1) v6)) (! (= v7 v0)) (! (<= (+ 1 2 1) v7)) (! (= v8 v0)) (! (= v9 v1)) (! (<= (+ 1 v10 1) v11)) (! (<= (+ 1 (+ 1 v7 1 v10 0) 1) (+ 1 v12 1 v13 0))) (! (<= (+ 1 (+ 1 v7 1 v10 0) 1) (+ 1 v12 1 v13 0))) (! (= v10 (+ 1 v8 1 v2 0))) (! (= v14 v12)) (! (= v15 v13)) (! (<= (+ 1 v10 1) v11)) (! (<= (+ 1 v16 1) v15)) (! (<= (+ 1 v16 1) v15)) (<= (+ 1 1 1) v6))\n"
    ++ codes "ax (<= (+ 1 1 1) v5)\n"
    ++ codes "goal (f0)\n") ∷ (codes "vars i i i i i i i i i i i i i i i i i i i i\n"
    ++ codes "def 0 l - b (| (! (<= (+ 1 v0 1) 10)) (! (= v1 v0)) (<= (+ 1 2 1) v1))\n"
    ++ codes "def 1 l - b (| (! (<= (+ 1 1 1) v2)) (f0))\n"
    ++ codes "def 2 l - b (| (! (<= (+ 1 v3 1) v4)) (! (<= (+ 1 0 1) v5)) (! (<= (+ 1 v6 1) v7)) (! (<= (+ 1 v6 1) v7)) (! (<= (+ 1 v8 1) v9)) (! (= v10 v3)) (! (<= (+ 1 2 1) v10)) (! (= v11 v3)) (! (= v12 v4)) (! (<= (+ 1 v13 1) v14)) (! (<= (+ 1 (+ 1 v10 1 v13 0) 1) (+ 1 v15 1 v16 0))) (! (<= (+ 1 (+ 1 v10 1 v13 0) 1) (+ 1 v15 1 v16 0))) (! (= v13 (+ 1 v11 1 v5 0))) (! (= v17 v15)) (! (= v18 v16)) (! (<= (+ 1 v13 1) v14)) (! (<= (+ 1 v19 1) v18)) (! (<= (+ 1 v19 1) v18)) (! (<= (+ 1 1 1) v9)) (f1))\n"
    ++ codes "ax (<= (+ 1 1 1) v8)\n"
    ++ codes "goal (f2)\n") ∷ (codes "vars i i i i i i i i i i i i i i i i i i i i i i i i i i i i i i i\n"
    ++ codes "def 0 l - b (| (! (<= (+ 1 v0 1) 10)) (! (= v1 v0)) (! (<= (+ 1 2 1) v1)) (! (= v2 v3)) (! (= v4 v5)) (! (<= (+ 1 v6 1) v7)) (! (<= (+ 1 (+ 1 v1 1 v6 0) 1) (+ 1 v8 1 v9 0))) (! (<= (+ 1 (+ 1 v1 1 v6 0) 1) (+ 1 v8 1 v9 0))) (! (= v6 (+ 1 v2 1 v10 0))) (! (= v11 v8)) (! (= v12 v9)) (! (<= (+ 1 v13 1) v14)) (<= (+ 1 1 1) v14))\n"
    ++ codes "def 1 l - b (| (! (<= (+ 1 1 1) v15)) (f0))\n"
    ++ codes "def 2 l - b (| (! (<= (+ 1 v16 1) v17)) (! (<= (+ 1 0 1) v10)) (! (<= (+ 1 v18 1) v19)) (! (<= (+ 1 v18 1) v19)) (! (<= (+ 1 v13 1) v20)) (! (= v21 v16)) (! (<= (+ 1 2 1) v21)) (! (= v22 v16)) (! (= v23 v17)) (! (<= (+ 1 v24 1) v25)) (! (<= (+ 1 (+ 1 v21 1 v24 0) 1) (+ 1 v26 1 v27 0))) (! (<= (+ 1 (+ 1 v21 1 v24 0) 1) (+ 1 v26 1 v27 0))) (! (= v24 (+ 1 v22 1 v10 0))) (! (= v28 v26)) (! (= v29 v27)) (! (<= (+ 1 v24 1) v25)) (! (<= (+ 1 v30 1) v29)) (! (<= (+ 1 v30 1) v29)) (! (<= (+ 1 1 1) v20)) (f1))\n"
    ++ codes "ax (<= (+ 1 1 1) v13)\n"
    ++ codes "goal (f2)\n") ∷ (codes "vars i i i i i i i i i i i i i i i i i i i i\n"
    ++ codes "def 0 l - b (| (<= (+ 1 v0 1) v1))\n"
    ++ codes "def 1 l - b (| (! (! (<= (+ 1 v2 1) 10))) (f0))\n"
    ++ codes "def 2 l - b (| (! (<= (+ 1 1 1) v0)) (f1))\n"
    ++ codes "def 3 l - b (| (! (<= (+ 1 v3 1) v4)) (! (<= (+ 1 0 1) v5)) (! (<= (+ 1 v6 1) v7)) (! (<= (+ 1 v6 1) v7)) (! (<= (+ 1 v8 1) v9)) (! (= v10 v3)) (! (<= (+ 1 2 1) v10)) (! (= v11 v3)) (! (= v12 v4)) (! (<= (+ 1 v13 1) v14)) (! (<= (+ 1 (+ 1 v10 1 v13 0) 1) (+ 1 v15 1 v16 0))) (! (<= (+ 1 (+ 1 v10 1 v13 0) 1) (+ 1 v15 1 v16 0))) (! (= v13 (+ 1 v11 1 v5 0))) (! (= v17 v15)) (! (= v18 v16)) (! (<= (+ 1 v13 1) v14)) (! (<= (+ 1 v19 1) v18)) (! (<= (+ 1 v19 1) v18)) (! (<= (+ 1 1 1) v9)) (f2))\n"
    ++ codes "ax (<= (+ 1 1 1) v8)\n"
    ++ codes "goal (f3)\n") ∷ [])
unfolding digits
texts1 = refl

depends1 : depends m p1
    ≡ codes "procedure P ()\n"
    ++ codes "  modifies g, h;\n"
    ++ codes "{\n"
    ++ codes "  var x, y: int where x < y;\n"
    ++ codes "  var z: int where z > c;\n"
    ++ codes "  call x, y := Q(g);\n"
    ++ codes "  assert h > g;\n"
    ++ codes "  havoc g, x;\n"
    ++ codes "  assert x < y;\n"
    ++ codes "  while (x < 10)\n"
    ++ codes "    invariant z > 1;\n"
    ++ codes "  {\n"
    ++ codes "    call y, x := Q(x);\n"
    ++ codes "    havoc z;\n"
    ++ codes "  }\n"
    ++ codes "  assert h > z;\n"
    ++ codes "}\n"
    ++ codes "var g: int, h: int where h > g;\n"
    ++ codes "var k: int where k > 0;\n"
    ++ codes "const c: int;\n"
    ++ codes "axiom c > 1;\n"
    ++ codes "procedure Q (a: int where a > g) returns (r, s: int where r + s > a + g);\n"
    ++ codes "  requires a > 2;\n"
    ++ codes "  modifies g, h;\n"
    ++ codes "  ensures g == old (g) + old (k);\n"
unfolding digits
depends1 = refl
