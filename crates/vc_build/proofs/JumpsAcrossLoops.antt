-- Gotos out of and within loops, to two labels of one statement and past a return: the goals and their texts.
use Rattle.std.specs.Prelude.{◌≡◌, refl, pos, true, false, [], ◌∷◌, ◌++◌, Some, None, codes}
use Rattle.std.specs.Fmt.{digits}
use Rattle.logic_core.specs.Tree.{num, truth, free, linear, equal, at_most, no_parts, part, int, boolean}
use Rattle.flow_core.specs.declared.mark.GoalKind.TheVariants as kind
use Rattle.bpl_model.specs.Module.{assert, assign, if_else, while, break, return, goto, labelled, no_stmts, stmt, ensures, Proc, Module}
use Rattle.bpl_model.specs.TypedTest.{is_typed_module}
use Rattle.bpl_model.proofs.Spelled.{at, marked}
use Rattle.vc_build.specs.Depends.{depends}
use Rattle.vc_build.proofs.Built.{texts, marks}

abbrev p0 : Proc
p0 = record {
  name = codes "G";
  ins = (record { name = codes "b"; sort = boolean; own = false; clause = None }
      ∷ record { name = codes "n"; sort = int; own = false; clause = None }
      ∷ []);
  outs = (record { name = codes "r"; sort = int; own = false; clause = None } ∷ []);
  locals = (record { name = codes "i"; sort = int; own = false; clause = (Some (at_most (num (pos 0)) (free 3))) } ∷ []);
  specs = (ensures false (at 2 3) (at_most (num (pos 1)) (free 2)) ∷ []);
  body = Some (stmt (assign (at 5 3) ((2, (num (pos 0))) ∷ [])) (stmt (if_else (at 6 3) true (Some (free 0))
      (stmt (goto (at 6 12) (codes "A" ∷ [])) no_stmts) (stmt (goto (at 6 29) (codes "B" ∷ codes "End" ∷ [])) no_stmts)) (stmt
      (assign (at 7 3) ((2, (num (pos 7))) ∷ [])) (stmt
      (labelled (codes "A" ∷ codes "B" ∷ []) (assign (at 8 9) ((2, (num (pos 1))) ∷ []))) (stmt
      (assign (at 9 3) ((3, (num (pos 0))) ∷ [])) (stmt (labelled (codes "L" ∷ []) (while (at 10 6)
      (Some (at_most (linear (part (pos 1) (free 3) no_parts) (pos 1)) (free 1)))
      (record { free = false; place = (at 10 20); formula = (at_most (num (pos 1)) (free 2)) } ∷ []) (stmt
      (assign (at 11 5) ((3, (linear (part (pos 1) (free 3) (part (pos 1) (num (pos 1)) no_parts)) (pos 0))) ∷ [])) (stmt (
      if_else (at 12 5) false (Some (equal (free 3) (num (pos 5))))
      (stmt (goto (at 12 19) (codes "Out" ∷ codes "In" ∷ [])) no_stmts) no_stmts) (stmt (if_else (at 13 5) false
      (Some (equal (free 3) (num (pos 6)))) (stmt (break (at 13 19) (Some (codes "L"))) no_stmts) no_stmts) (stmt (
      while (at 14 5) None ([]) (stmt
      (if_else (at 14 17) false (Some (free 0)) (stmt (goto (at 14 26) (codes "In" ∷ [])) no_stmts) no_stmts)
      (stmt (break (at 14 37) None) no_stmts))) (stmt (assign (at 15 5)
      ((2, (linear (part (pos 1) (free 2) (part (pos 1) (num (pos 1)) no_parts)) (pos 0))) ∷ [])) (stmt
      (labelled (codes "In" ∷ []) (assert (marked 16 9 kind.Assert) (at_most (num (pos 1)) (free 2)))) no_stmts)))))))) (
      stmt (assert (marked 18 3 kind.Assert) (at_most (num (pos 1)) (free 2))) (stmt (labelled (codes "Out" ∷ []) (if_else
      (at 19 8) true None (stmt (labelled (codes "M" ∷ [])
      (if_else (at 19 20) false (Some (free 0)) (stmt (goto (at 19 29) (codes "N" ∷ [])) no_stmts) no_stmts)) (stmt
      (assign (at 19 39) ((2, (num (pos 2))) ∷ [])) (stmt (labelled (codes "N" ∷ []) (assert
      (marked 19 50 kind.Assert) (at_most (linear (part (pos 1) (num (pos 0)) no_parts) (pos 1)) (free 2)))) (
      stmt (if_else (at 19 64) false (Some (at_most (linear (part (pos 1) (num (pos 3)) no_parts) (pos 1)) (free 2)))
      (stmt (goto (at 19 77) (codes "End" ∷ [])) no_stmts) no_stmts) no_stmts))))
      (stmt (return (at 19 98)) no_stmts))) (stmt (goto (at 20 3) (codes "End" ∷ [])) (stmt
      (assert (marked 21 3 kind.Assert) (truth false)) (stmt (labelled (codes "End" ∷ [])
      (assign (at 22 8) ((2, (linear (part (pos 1) (free 2) (part (pos 1) (num (pos 1)) no_parts)) (pos 0))) ∷ [])))
      no_stmts)))))))))));
}

abbrev m : Module
m = record {
  consts = [];
  axioms = [];
  functions = [];
  globals = [];
  procs = p0 ∷ [];
  texts = (record {
    name = codes "G";
    text = codes
        "procedure G (b: bool, n: int) returns (r: int)\n  ensures r >= 1;\n{\n  var i: int where i >= 0;\n  r := 0;\n  if (b)\n  {\n    goto A;\n  }\n  else\n  {\n    goto B, End;\n  }\n  r := 7;\n  A: B: r := 1;\n  i := 0;\n  L: while (i < n)\n    invariant r >= 1;\n  {\n    i := i + 1;\n    if (i == 5)\n    {\n      goto Out, In;\n    }\n    if (i == 6)\n    {\n      break L;\n    }\n    while (*)\n    {\n      if (b)\n      {\n        goto In;\n      }\n      break;\n    }\n    r := r + 1;\n    In: assert r >= 1;\n  }\n  assert r >= 1;\n  Out: if (*)\n  {\n    M: if (b)\n    {\n      goto N;\n    }\n    r := 2;\n    N: assert r > 0;\n    if (r > 3)\n    {\n      goto End;\n    }\n  }\n  else\n  {\n    return;\n  }\n  goto End;\n  assert false;\n  End: r := r + 1;\n}\n";
    contract = codes "procedure G (b: bool, n: int) returns (r: int)\n  ensures r >= 1;\n";
    leads = [];
    contract_leads = [];
  }
      ∷ []);
}

typed : is_typed_module m ≡ true
typed = refl

marks0 : marks m p0 ≡ ((marked 10 20 kind.InvariantEntry) ∷ (marked 16 9 kind.Assert) ∷ (marked 10 20 kind.InvariantKept) ∷ (marked 18 3 kind.Assert) ∷ (marked 19 50 kind.Assert) ∷ (marked 21 3 kind.Assert) ∷ (marked 2 3 kind.Ensures) ∷ [])
unfolding digits
marks0 = refl

texts0 : texts m p0 ≡ ((codes "vars i i i i b i i i\n"
    ++ codes "def 0 l - b (| (! (= v0 1)) (! (= v1 0)) (<= 1 v0))\n"
    ++ codes "def 1 l - b (| (! (= v2 v3)) (f0))\n"
    ++ codes "def 2 l - b (| (! v4) (! (= v3 v5)) (f1))\n"
    ++ codes "def 3 l - b (| (! (= v2 v5)) (f0))\n"
    ++ codes "def 4 l - b (| (! (! v4)) (f3))\n"
    ++ codes "def 5 l - b (| (! T) (! (= v5 0)) (& (f2) (f4)))\n"
    ++ codes "def 6 l - b (| (! (! T)) (! (= v3 v6)) (f1))\n"
    ++ codes "def 7 l - b (| (! T) (& (f5) (f6)))\n"
    ++ codes "def 8 l - b (| (! (! T)) (! (= v2 v6)) (f0))\n"
    ++ codes "def 9 l - b (| (! T) (& (f7) (f8)))\n"
    ++ codes "def 10 l - b (| (! T) (f9))\n"
    ++ codes "def 11 l - b (| (! (<= 0 v7)) (f10))\n"
    ++ codes "goal (f11)\n") ∷ (codes "vars i i i i b i i i i i i i i i i i i i i i i i i\n"
    ++ codes "def 0 l - b (| (<= 1 v0))\n"
    ++ codes "def 1 l - b (| (! (= v0 v1)) (! (= v2 v3)) (f0))\n"
    ++ codes "def 2 l - b (| (! (= v3 5)) (f1))\n"
    ++ codes "def 3 l - b (| (! v4) (! (= v0 v5)) (! (= v2 v6)) (f0))\n"
    ++ codes "def 4 l - b (| (! (= v7 (+ 1 v8 1 1 0))) (! (= v0 v7)) (! (= v2 v9)) (f0))\n"
    ++ codes "def 5 l - b (| (! (= v8 v10)) (! (= v9 v11)) (f4))\n"
    ++ codes "def 6 l - b (| (! (! v4)) (! (= v10 v5)) (! (= v11 v6)) (f5))\n"
    ++ codes "def 7 l - b (| (& (f3) (f6)))\n"
    ++ codes "def 8 l - b (| (! (= v8 v5)) (! (= v9 v6)) (f4))\n"
    ++ codes "def 9 l - b (| (& (f7) (f8)))\n"
    ++ codes "def 10 l - b (| (f9))\n"
    ++ codes "def 11 l - b (| (! (! (= v12 6))) (! (= v5 v13)) (! (= v6 v12)) (f10))\n"
    ++ codes "def 12 l - b (| (f11))\n"
    ++ codes "def 13 l - b (| (! (! (= v3 5))) (! (= v13 v1)) (! (= v12 v3)) (f12))\n"
    ++ codes "def 14 l - b (| (! T) (! (= v3 (+ 1 v14 1 1 0))) (& (f2) (f13)))\n"
    ++ codes "def 15 l - b (| (! (! T)) (! (= v0 v1)) (! (= v2 v14)) (f0))\n"
    ++ codes "def 16 l - b (| (! (<= (+ 1 v14 1) v15)) (& (f14) (f15)))\n"
    ++ codes "def 17 l - b (| (! (<= 1 v1)) (f16))\n"
    ++ codes "def 18 l - b (| (! (= v16 1)) (! (= v17 0)) (! (<= 1 v16)) (f17))\n"
    ++ codes "def 19 l - b (| (! (= v18 v19)) (f18))\n"
    ++ codes "def 20 l - b (| (! v4) (! (= v19 v20)) (f19))\n"
    ++ codes "def 21 l - b (| (! (= v18 v20)) (f18))\n"
    ++ codes "def 22 l - b (| (! (! v4)) (f21))\n"
    ++ codes "def 23 l - b (| (! T) (! (= v20 0)) (& (f20) (f22)))\n"
    ++ codes "def 24 l - b (| (! (! T)) (! (= v19 v21)) (f19))\n"
    ++ codes "def 25 l - b (| (! T) (& (f23) (f24)))\n"
    ++ codes "def 26 l - b (| (! (! T)) (! (= v18 v21)) (f18))\n"
    ++ codes "def 27 l - b (| (! T) (& (f25) (f26)))\n"
    ++ codes "def 28 l - b (| (! T) (f27))\n"
    ++ codes "def 29 l - b (| (! (<= 0 v22)) (f28))\n"
    ++ codes "goal (f29)\n") ∷ (codes "vars i i i i b i i i i i i i i i i i i i i i i i i\n"
    ++ codes "def 0 l - b (| (! (<= 1 v0)) (<= 1 v0))\n"
    ++ codes "def 1 l - b (| (! (= v0 v1)) (! (= v2 v3)) (f0))\n"
    ++ codes "def 2 l - b (| (! (= v3 5)) (f1))\n"
    ++ codes "def 3 l - b (| (! v4) (! (= v0 v5)) (! (= v2 v6)) (f0))\n"
    ++ codes "def 4 l - b (| (! (= v7 (+ 1 v8 1 1 0))) (! (= v0 v7)) (! (= v2 v9)) (f0))\n"
    ++ codes "def 5 l - b (| (! (= v8 v10)) (! (= v9 v11)) (f4))\n"
    ++ codes "def 6 l - b (| (! (! v4)) (! (= v10 v5)) (! (= v11 v6)) (f5))\n"
    ++ codes "def 7 l - b (| (& (f3) (f6)))\n"
    ++ codes "def 8 l - b (| (! (= v8 v5)) (! (= v9 v6)) (f4))\n"
    ++ codes "def 9 l - b (| (& (f7) (f8)))\n"
    ++ codes "def 10 l - b (| (f9))\n"
    ++ codes "def 11 l - b (| (! (! (= v12 6))) (! (= v5 v13)) (! (= v6 v12)) (f10))\n"
    ++ codes "def 12 l - b (| (f11))\n"
    ++ codes "def 13 l - b (| (! (! (= v3 5))) (! (= v13 v1)) (! (= v12 v3)) (f12))\n"
    ++ codes "def 14 l - b (| (! T) (! (= v3 (+ 1 v14 1 1 0))) (& (f2) (f13)))\n"
    ++ codes "def 15 l - b (| (! (! T)) (! (= v0 v1)) (! (= v2 v14)) (f0))\n"
    ++ codes "def 16 l - b (| (! (<= (+ 1 v14 1) v15)) (& (f14) (f15)))\n"
    ++ codes "def 17 l - b (| (! (<= 1 v1)) (f16))\n"
    ++ codes "def 18 l - b (| (! (= v16 1)) (! (= v17 0)) (! (<= 1 v16)) (f17))\n"
    ++ codes "def 19 l - b (| (! (= v18 v19)) (f18))\n"
    ++ codes "def 20 l - b (| (! v4) (! (= v19 v20)) (f19))\n"
    ++ codes "def 21 l - b (| (! (= v18 v20)) (f18))\n"
    ++ codes "def 22 l - b (| (! (! v4)) (f21))\n"
    ++ codes "def 23 l - b (| (! T) (! (= v20 0)) (& (f20) (f22)))\n"
    ++ codes "def 24 l - b (| (! (! T)) (! (= v19 v21)) (f19))\n"
    ++ codes "def 25 l - b (| (! T) (& (f23) (f24)))\n"
    ++ codes "def 26 l - b (| (! (! T)) (! (= v18 v21)) (f18))\n"
    ++ codes "def 27 l - b (| (! T) (& (f25) (f26)))\n"
    ++ codes "def 28 l - b (| (! T) (f27))\n"
    ++ codes "def 29 l - b (| (! (<= 0 v22)) (f28))\n"
    ++ codes "goal (f29)\n") ∷ (codes "vars i i i i i i i i i i i i b i i i\n"
    ++ codes "def 0 l - b (| (<= 1 v0))\n"
    ++ codes "def 1 l - b (| (! (= v1 6)) (! (= v0 v2)) (! (= v3 v1)) (f0))\n"
    ++ codes "def 2 l - b (| (f1))\n"
    ++ codes "def 3 l - b (| (! (! (= v4 5))) (! (= v2 v5)) (! (= v1 v4)) (f2))\n"
    ++ codes "def 4 l - b (| (! T) (! (= v4 (+ 1 v6 1 1 0))) (f3))\n"
    ++ codes "def 5 l - b (| (! (<= (+ 1 v6 1) v7)) (f4))\n"
    ++ codes "def 6 l - b (| (! (! (<= (+ 1 v6 1) v7))) (! (= v0 v5)) (! (= v3 v6)) (f0))\n"
    ++ codes "def 7 l - b (| (! (<= 1 v5)) (& (f5) (f6)))\n"
    ++ codes "def 8 l - b (| (! (= v8 1)) (! (= v9 0)) (! (<= 1 v8)) (f7))\n"
    ++ codes "def 9 l - b (| (! (= v10 v11)) (f8))\n"
    ++ codes "def 10 l - b (| (! v12) (! (= v11 v13)) (f9))\n"
    ++ codes "def 11 l - b (| (! (= v10 v13)) (f8))\n"
    ++ codes "def 12 l - b (| (! (! v12)) (f11))\n"
    ++ codes "def 13 l - b (| (! T) (! (= v13 0)) (& (f10) (f12)))\n"
    ++ codes "def 14 l - b (| (! (! T)) (! (= v11 v14)) (f9))\n"
    ++ codes "def 15 l - b (| (! T) (& (f13) (f14)))\n"
    ++ codes "def 16 l - b (| (! (! T)) (! (= v10 v14)) (f8))\n"
    ++ codes "def 17 l - b (| (! T) (& (f15) (f16)))\n"
    ++ codes "def 18 l - b (| (! T) (f17))\n"
    ++ codes "def 19 l - b (| (! (<= 0 v15)) (f18))\n"
    ++ codes "goal (f19)\n") ∷ (codes "vars i b i i i i i i i i i i i i i i i i i i i i i\n"
    ++ codes "def 0 l - b (| (<= (+ 1 0 1) v0))\n"
    ++ codes "def 1 l - b (| (! v1) (! (= v0 v2)) (! (= v3 v4)) (f0))\n"
    ++ codes "def 2 l - b (| (! (= v5 2)) (! (= v0 v5)) (! (= v3 v6)) (f0))\n"
    ++ codes "def 3 l - b (| (! (! v1)) (! (= v7 v2)) (! (= v6 v4)) (f2))\n"
    ++ codes "def 4 l - b (| (! T) (& (f1) (f3)))\n"
    ++ codes "def 5 l - b (| (! (! T)) (! (= v0 v2)) (! (= v3 v4)) (f0))\n"
    ++ codes "def 6 l - b (| (& (f4) (f5)))\n"
    ++ codes "def 7 l - b (| (f6))\n"
    ++ codes "def 8 l - b (| (! (= v2 v8)) (! (= v4 v9)) (f7))\n"
    ++ codes "def 9 l - b (| (! (= v9 5)) (f8))\n"
    ++ codes "def 10 l - b (| (! (<= 1 v10)) (! (= v2 v10)) (! (= v4 v11)) (f7))\n"
    ++ codes "def 11 l - b (| (! (= v12 6)) (! (= v10 v13)) (! (= v11 v12)) (f10))\n"
    ++ codes "def 12 l - b (| (f11))\n"
    ++ codes "def 13 l - b (| (! (! (= v9 5))) (! (= v13 v8)) (! (= v12 v9)) (f12))\n"
    ++ codes "def 14 l - b (| (! T) (! (= v9 (+ 1 v14 1 1 0))) (& (f9) (f13)))\n"
    ++ codes "def 15 l - b (| (! (<= (+ 1 v14 1) v15)) (f14))\n"
    ++ codes "def 16 l - b (| (! (! (<= (+ 1 v14 1) v15))) (! (= v10 v8)) (! (= v11 v14)) (f10))\n"
    ++ codes "def 17 l - b (| (! (<= 1 v8)) (& (f15) (f16)))\n"
    ++ codes "def 18 l - b (| (! (= v16 1)) (! (= v17 0)) (! (<= 1 v16)) (f17))\n"
    ++ codes "def 19 l - b (| (! (= v18 v19)) (f18))\n"
    ++ codes "def 20 l - b (| (! v1) (! (= v19 v20)) (f19))\n"
    ++ codes "def 21 l - b (| (! (= v18 v20)) (f18))\n"
    ++ codes "def 22 l - b (| (! (! v1)) (f21))\n"
    ++ codes "def 23 l - b (| (! T) (! (= v20 0)) (& (f20) (f22)))\n"
    ++ codes "def 24 l - b (| (! (! T)) (! (= v19 v21)) (f19))\n"
    ++ codes "def 25 l - b (| (! T) (& (f23) (f24)))\n"
    ++ codes "def 26 l - b (| (! (! T)) (! (= v18 v21)) (f18))\n"
    ++ codes "def 27 l - b (| (! T) (& (f25) (f26)))\n"
    ++ codes "def 28 l - b (| (! (! T)) (! (= v2 v21)) (! (= v4 v22)) (f7))\n"
    ++ codes "def 29 l - b (| (! T) (& (f27) (f28)))\n"
    ++ codes "def 30 l - b (| (! (<= 0 v22)) (f29))\n"
    ++ codes "goal (f30)\n") ∷ (codes "vars\n"
    ++ codes "goal T\n") ∷ (codes "vars i i i i i i i i i i i b i i i i i i i i i i i i i i i i i i i i\n"
    ++ codes "def 0 l - b (| (<= 1 v0))\n"
    ++ codes "def 1 l - b (| (! (= v1 (+ 1 v2 1 1 0))) (! (= v0 v1)) (! (= v3 v4)) (f0))\n"
    ++ codes "def 2 l - b (| (! (<= (+ 1 3 1) v5)) (! (= v2 v5)) (! (= v4 v6)) (f1))\n"
    ++ codes "def 3 l - b (| (! (= v2 v7)) (! (= v4 v8)) (f1))\n"
    ++ codes "def 4 l - b (| (! (= v7 v9)) (! (= v8 v10)) (f3))\n"
    ++ codes "def 5 l - b (| (! (! (<= (+ 1 3 1) v5))) (! (= v9 v5)) (! (= v10 v6)) (f4))\n"
    ++ codes "def 6 l - b (| (! (<= (+ 1 0 1) v5)) (& (f2) (f5)))\n"
    ++ codes "def 7 l - b (| (! v11) (! (= v5 v12)) (! (= v6 v13)) (f6))\n"
    ++ codes "def 8 l - b (| (! (= v14 2)) (! (= v5 v14)) (! (= v6 v15)) (f6))\n"
    ++ codes "def 9 l - b (| (! (! v11)) (! (= v16 v12)) (! (= v15 v13)) (f8))\n"
    ++ codes "def 10 l - b (| (! T) (& (f7) (f9)))\n"
    ++ codes "def 11 l - b (| (! (! T)) (! (= v5 v12)) (! (= v6 v13)) (f6))\n"
    ++ codes "def 12 l - b (| (& (f10) (f11)))\n"
    ++ codes "def 13 l - b (| (! (= v0 v12)) (! (= v3 v13)) (f0))\n"
    ++ codes "def 14 l - b (| (& (f12) (f13)))\n"
    ++ codes "def 15 l - b (| (! (= v12 v17)) (! (= v13 v18)) (f14))\n"
    ++ codes "def 16 l - b (| (! (= v18 5)) (f15))\n"
    ++ codes "def 17 l - b (| (! (<= 1 v19)) (! (= v12 v19)) (! (= v13 v20)) (f14))\n"
    ++ codes "def 18 l - b (| (! (= v21 6)) (! (= v19 v22)) (! (= v20 v21)) (f17))\n"
    ++ codes "def 19 l - b (| (f18))\n"
    ++ codes "def 20 l - b (| (! (! (= v18 5))) (! (= v22 v17)) (! (= v21 v18)) (f19))\n"
    ++ codes "def 21 l - b (| (! T) (! (= v18 (+ 1 v23 1 1 0))) (& (f16) (f20)))\n"
    ++ codes "def 22 l - b (| (! (<= (+ 1 v23 1) v24)) (f21))\n"
    ++ codes "def 23 l - b (| (! (! (<= (+ 1 v23 1) v24))) (! (= v19 v17)) (! (= v20 v23)) (f17))\n"
    ++ codes "def 24 l - b (| (! (<= 1 v17)) (& (f22) (f23)))\n"
    ++ codes "def 25 l - b (| (! (= v25 1)) (! (= v26 0)) (! (<= 1 v25)) (f24))\n"
    ++ codes "def 26 l - b (| (! (= v27 v28)) (f25))\n"
    ++ codes "def 27 l - b (| (! v11) (! (= v28 v29)) (f26))\n"
    ++ codes "def 28 l - b (| (! (= v27 v29)) (f25))\n"
    ++ codes "def 29 l - b (| (! (= v2 v29)) (! (= v4 v30)) (f1))\n"
    ++ codes "def 30 l - b (| (! (! v11)) (& (f28) (f29)))\n"
    ++ codes "def 31 l - b (| (! T) (! (= v29 0)) (& (f27) (f30)))\n"
    ++ codes "def 32 l - b (| (! (! T)) (! (= v28 v31)) (f26))\n"
    ++ codes "def 33 l - b (| (! T) (& (f31) (f32)))\n"
    ++ codes "def 34 l - b (| (! (! T)) (! (= v27 v31)) (f25))\n"
    ++ codes "def 35 l - b (| (! T) (& (f33) (f34)))\n"
    ++ codes "def 36 l - b (| (! (! T)) (! (= v12 v31)) (! (= v13 v30)) (f14))\n"
    ++ codes "def 37 l - b (| (! T) (& (f35) (f36)))\n"
    ++ codes "def 38 l - b (| (! (! T)) (! (= v2 v31)) (! (= v4 v30)) (f1))\n"
    ++ codes "def 39 l - b (| (! (<= 0 v30)) (& (f37) (f38)))\n"
    ++ codes "goal (f39)\n") ∷ [])
unfolding digits
texts0 = refl

depends0 : depends m p0
    ≡ codes "procedure G (b: bool, n: int) returns (r: int)\n"
    ++ codes "  ensures r >= 1;\n"
    ++ codes "{\n"
    ++ codes "  var i: int where i >= 0;\n"
    ++ codes "  r := 0;\n"
    ++ codes "  if (b)\n"
    ++ codes "  {\n"
    ++ codes "    goto A;\n"
    ++ codes "  }\n"
    ++ codes "  else\n"
    ++ codes "  {\n"
    ++ codes "    goto B, End;\n"
    ++ codes "  }\n"
    ++ codes "  r := 7;\n"
    ++ codes "  A: B: r := 1;\n"
    ++ codes "  i := 0;\n"
    ++ codes "  L: while (i < n)\n"
    ++ codes "    invariant r >= 1;\n"
    ++ codes "  {\n"
    ++ codes "    i := i + 1;\n"
    ++ codes "    if (i == 5)\n"
    ++ codes "    {\n"
    ++ codes "      goto Out, In;\n"
    ++ codes "    }\n"
    ++ codes "    if (i == 6)\n"
    ++ codes "    {\n"
    ++ codes "      break L;\n"
    ++ codes "    }\n"
    ++ codes "    while (*)\n"
    ++ codes "    {\n"
    ++ codes "      if (b)\n"
    ++ codes "      {\n"
    ++ codes "        goto In;\n"
    ++ codes "      }\n"
    ++ codes "      break;\n"
    ++ codes "    }\n"
    ++ codes "    r := r + 1;\n"
    ++ codes "    In: assert r >= 1;\n"
    ++ codes "  }\n"
    ++ codes "  assert r >= 1;\n"
    ++ codes "  Out: if (*)\n"
    ++ codes "  {\n"
    ++ codes "    M: if (b)\n"
    ++ codes "    {\n"
    ++ codes "      goto N;\n"
    ++ codes "    }\n"
    ++ codes "    r := 2;\n"
    ++ codes "    N: assert r > 0;\n"
    ++ codes "    if (r > 3)\n"
    ++ codes "    {\n"
    ++ codes "      goto End;\n"
    ++ codes "    }\n"
    ++ codes "  }\n"
    ++ codes "  else\n"
    ++ codes "  {\n"
    ++ codes "    return;\n"
    ++ codes "  }\n"
    ++ codes "  goto End;\n"
    ++ codes "  assert false;\n"
    ++ codes "  End: r := r + 1;\n"
    ++ codes "}\n"
unfolding digits
depends0 = refl
