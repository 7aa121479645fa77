-- Triggers chosen in axioms, in the body of a function, in a clause and in nested quantifiers: the goals and their texts.
use Rattle.std.specs.Prelude.{◌≡◌, refl, pos, true, false, [], ◌∷◌, ◌++◌, Some, None, codes}
use Rattle.std.specs.Fmt.{digits}
use Rattle.logic_core.specs.Tree.{Tree, num, free, bound, linear, read, negation, all, some, equal, at_most, for_all, exists, no_trees, tree, no_parts, part, no_patterns, pattern, int, boolean, map}
use Rattle.flow_core.specs.declared.mark.GoalKind.TheVariants as kind
use Rattle.bpl_model.specs.Module.{assert, assume, havoc, no_stmts, stmt, requires, Proc, Module}
use Rattle.bpl_model.specs.TypedTest.{is_typed_module}
use Rattle.bpl_model.proofs.Spelled.{at, marked}
use Rattle.vc_build.specs.Depends.{depends}
use Rattle.vc_build.proofs.Built.{texts, marks}

abbrev p0 : Proc
p0 = record {
  name = codes "T";
  ins = (record {
    name = codes "b";
    sort = (map int);
    own = false;
    clause = (Some (for_all (int ∷ []) no_patterns
        (at_most (linear (part (pos 1) (read (free 0) (bound 0)) no_parts) (pos 1)) (read (free 2) (bound 0)))));
  }
      ∷ []);
  outs = (record { name = codes "r"; sort = int; own = false; clause = None } ∷ []);
  locals = [];
  specs = (requires false (at 2 3) (Tree.call 1 (tree (free 2) (tree (num (pos 3)) no_trees)))
      ∷ requires false (at 3 3) (some (tree (for_all (int ∷ []) (pattern (tree (read (free 0) (bound 0)) no_trees) no_patterns)
      (equal (read (free 2) (bound 0)) (num (pos 0)))) (tree (exists (int ∷ int ∷ []) no_patterns (all (tree
      (equal (read (read (free 1) (bound 1)) (bound 0)) (num (pos 0)))
      (tree (equal (read (free 0) (bound 1)) (read (read (free 1) (bound 1)) (bound 1))) no_trees)))) no_trees)))
      ∷ []);
  body = Some (stmt (assert (marked 5 3 kind.Assert) (for_all (int ∷ int ∷ []) no_patterns
      (equal (Tree.call 0 (tree (bound 1) (tree (bound 0) no_trees))) (Tree.call 0 (tree (bound 0) (tree (bound 1) no_trees)))))) (
      stmt (assume (at 6 3) (exists (int ∷ int ∷ []) no_patterns (all (tree (equal
      (Tree.call 0 (tree (bound 1) (tree (num (pos 1)) no_trees)))
      (Tree.call 0 (tree (num (pos 2)) (tree (bound 0) no_trees))))
      (tree (equal (Tree.call 0 (tree (bound 1) (tree (num (pos 1)) no_trees))) (num (pos 0))) no_trees))))) (stmt
      (havoc (at 7 3) (3 ∷ [])) (stmt
      (assert (marked 8 3 kind.Assert) (at_most (linear (part (pos 1) (read (free 2) (num (pos 0))) no_parts) (pos 1)) (free 3)))
      no_stmts))));
}

abbrev m : Module
m = record {
  consts = (record { name = codes "a"; sort = (map int) } ∷ record { name = codes "m"; sort = (map (map int)) } ∷ []);
  axioms = ((for_all (int ∷ []) no_patterns
      (exists (int ∷ []) no_patterns (equal (read (read (free 1) (bound 1)) (bound 0)) (read (free 0) (bound 1)))))
      ∷ (for_all (int ∷ int ∷ int ∷ []) no_patterns (some (tree (negation
      (at_most (linear (part (pos 1) (read (free 0) (bound 2)) no_parts) (pos 1)) (read (read (free 1) (bound 1)) (bound 0)))) (
      tree (equal (Tree.call 0 (tree (bound 2) (tree (bound 1) no_trees)))
      (read (free 0) (linear (part (pos 1) (bound 0) (part (pos 1) (num (pos 1)) no_parts)) (pos 0)))) no_trees))))
      ∷ (for_all (int ∷ []) no_patterns (at_most (linear (part (pos 1) (num (pos 0)) no_parts) (pos 1)) (bound 0)))
      ∷ []);
  functions = (record {
    name = codes "f";
    def = record {
      params = (int ∷ int ∷ []);
      sort = int;
      logical = false;
      body = (linear (part (pos 1) (bound 1) (part (pos 1) (bound 0) no_parts)) (pos 0));
    };
  }
      ∷ record {
        name = codes "all_below";
        def = record {
          params = ((map int) ∷ int ∷ []);
          sort = boolean;
          logical = true;
          body = (for_all (int ∷ int ∷ []) no_patterns
              (at_most (read (bound 3) (bound 1)) (Tree.call 0 (tree (read (bound 3) (bound 0)) (tree (bound 2) no_trees)))));
        };
      }
      ∷ []);
  globals = [];
  procs = p0 ∷ [];
  texts = (record {
    name = codes "a";
    text = codes "const a: [int] int;\n";
    contract = codes "const a: [int] int;\n";
    leads = [];
    contract_leads = [];
  }
      ∷ record {
        name = codes "m";
        text = codes "const m: [int] [int] int;\n";
        contract = codes "const m: [int] [int] int;\n";
        leads = [];
        contract_leads = [];
      }
      ∷ record {
        name = codes "f";
        text = codes "function f(x: int, y: int): int { x + y }\n";
        contract = codes "function f(x: int, y: int): int { x + y }\n";
        leads = [];
        contract_leads = [];
      }
      ∷ record {
        name = codes "all_below";
        text = codes "function all_below(b: [int] int, n: int): bool { (forall i: int, j: int :: b[i] <= f(b[j], n)) }\n";
        contract = codes "function all_below(b: [int] int, n: int): bool { (forall i: int, j: int :: b[i] <= f(b[j], n)) }\n";
        leads = (2 ∷ []);
        contract_leads = (2 ∷ []);
      }
      ∷ record {
        name = codes "@1";
        text = codes "axiom (forall i: int :: (exists j: int :: m[i][j] == a[i]));\n";
        contract = codes "axiom (forall i: int :: (exists j: int :: m[i][j] == a[i]));\n";
        leads = (0 ∷ 1 ∷ []);
        contract_leads = (0 ∷ 1 ∷ []);
      }
      ∷ record {
        name = codes "@2";
        text = codes "axiom (forall i: int, j: int, k: int :: a[i] < m[j][k] ==> f(i, j) == a[k + 1]);\n";
        contract = codes "axiom (forall i: int, j: int, k: int :: a[i] < m[j][k] ==> f(i, j) == a[k + 1]);\n";
        leads = (0 ∷ 1 ∷ 2 ∷ []);
        contract_leads = (0 ∷ 1 ∷ 2 ∷ []);
      }
      ∷ record {
        name = codes "@3";
        text = codes "axiom (forall i: int :: i > 0);\n";
        contract = codes "axiom (forall i: int :: i > 0);\n";
        leads = [];
        contract_leads = [];
      }
      ∷ record {
        name = codes "T";
        text = codes
            "procedure T (b: [int] int where (forall i: int :: b[i] > a[i])) returns (r: int)\n  requires all_below(b, 3);\n  requires (forall i: int :: { a[i] } b[i] == 0) || (exists q: int, p: int :: m[q][p] == 0 && a[q] == m[q][q]);\n{\n  assert (forall i: int, j: int :: f(i, j) == f(j, i));\n  assume (exists i: int, j: int :: f(i, 1) == f(2, j) && f(i, 1) == 0);\n  havoc r;\n  assert r > b[0];\n}\n";
        contract = codes
            "procedure T (b: [int] int where (forall i: int :: b[i] > a[i])) returns (r: int)\n  requires all_below(b, 3);\n  requires (forall i: int :: { a[i] } b[i] == 0) || (exists q: int, p: int :: m[q][p] == 0 && a[q] == m[q][q]);\n";
        leads = (0 ∷ 1 ∷ 2 ∷ 3 ∷ []);
        contract_leads = (0 ∷ 1 ∷ 3 ∷ []);
      }
      ∷ []);
}

typed : is_typed_module m ≡ true
typed = refl

marks0 : marks m p0 ≡ ((marked 5 3 kind.Assert) ∷ (marked 8 3 kind.Assert) ∷ [])
unfolding digits
marks0 = refl

texts0 : texts m p0 ≡ ((codes "vars mi mi mmi\n"
    ++ codes "def 0 p ii i (+ 1 k1 1 k0 0)\n"
    ++ codes "def 1 l mii b (A ii (t (r k3 k1) (f0 (r k3 k0) k2)) (<= (r k3 k1) (f0 (r k3 k0) k2)))\n"
    ++ codes "def 2 l - b (| (! (A i (t (r v0 k0)) (<= (+ 1 (r v0 k0) 1) (r v1 k0)))) (! (f1 v1 3)) (! (| (A i (t (r v0 k0)) (= (r v1 k0) 0)) (E ii (t (r (r v2 k1) k0)) (& (= (r (r v2 k1) k0) 0) (= (r v0 k1) (r (r v2 k1) k1)))))) (A ii (t (f0 k1 k0)) (= (f0 k1 k0) (f0 k0 k1))))\n"
    ++ codes "ax (A i (E i (t (r (r v2 k1) k0)) (= (r (r v2 k1) k0) (r v0 k1))))\n"
    ++ codes "ax (A iii (t (r v0 k2) (r (r v2 k1) k0)) (| (! (<= (+ 1 (r v0 k2) 1) (r (r v2 k1) k0))) (= (f0 k2 k1) (r v0 (+ 1 k0 1 1 0)))))\n"
    ++ codes "ax (A i (<= (+ 1 0 1) k0))\n"
    ++ codes "goal (f2)\n") ∷ (codes "vars mi mi mmi i\n"
    ++ codes "def 0 p ii i (+ 1 k1 1 k0 0)\n"
    ++ codes "def 1 l mii b (A ii (t (r k3 k1) (f0 (r k3 k0) k2)) (<= (r k3 k1) (f0 (r k3 k0) k2)))\n"
    ++ codes "def 2 l - b (| (! (A i (t (r v0 k0)) (<= (+ 1 (r v0 k0) 1) (r v1 k0)))) (! (f1 v1 3)) (! (| (A i (t (r v0 k0)) (= (r v1 k0) 0)) (E ii (t (r (r v2 k1) k0)) (& (= (r (r v2 k1) k0) 0) (= (r v0 k1) (r (r v2 k1) k1)))))) (! (A ii (t (f0 k1 k0)) (= (f0 k1 k0) (f0 k0 k1)))) (! (E ii (t (f0 k1 1) (f0 2 k0)) (& (= (f0 k1 1) (f0 2 k0)) (= (f0 k1 1) 0)))) (<= (+ 1 (r v1 0) 1) v3))\n"
    ++ codes "ax (A i (E i (t (r (r v2 k1) k0)) (= (r (r v2 k1) k0) (r v0 k1))))\n"
    ++ codes "ax (A iii (t (r v0 k2) (r (r v2 k1) k0)) (| (! (<= (+ 1 (r v0 k2) 1) (r (r v2 k1) k0))) (= (f0 k2 k1) (r v0 (+ 1 k0 1 1 0)))))\n"
    ++ codes "ax (A i (<= (+ 1 0 1) k0))\n"
    ++ codes "goal (f2)\n") ∷ [])
unfolding digits
texts0 = refl

depends0 : depends m p0
    ≡ codes "procedure T (b: [int] int where (forall i: int :: b[i] > a[i])) returns (r: int)\n"
    ++ codes "  requires all_below(b, 3);\n"
    ++ codes "  requires (forall i: int :: { a[i] } b[i] == 0) || (exists q: int, p: int :: m[q][p] == 0 && a[q] == m[q][q]);\n"
    ++ codes "{\n"
    ++ codes "  assert (forall i: int, j: int :: f(i, j) == f(j, i));\n"
    ++ codes "  assume (exists i: int, j: int :: f(i, 1) == f(2, j) && f(i, 1) == 0);\n"
    ++ codes "  havoc r;\n"
    ++ codes "  assert r > b[0];\n"
    ++ codes "}\n"
    ++ codes "const a: [int] int;\n"
    ++ codes "const m: [int] [int] int;\n"
    ++ codes "function f(x: int, y: int): int { x + y }\n"
    ++ codes "function all_below(b: [int] int, n: int): bool { (forall i: int, j: int :: b[i] <= f(b[j], n)) }\n"
    ++ codes "axiom (forall i: int :: (exists j: int :: m[i][j] == a[i]));\n"
    ++ codes "axiom (forall i: int, j: int, k: int :: a[i] < m[j][k] ==> f(i, j) == a[k + 1]);\n"
    ++ codes "axiom (forall i: int :: i > 0);\n"
unfolding digits
depends0 = refl
