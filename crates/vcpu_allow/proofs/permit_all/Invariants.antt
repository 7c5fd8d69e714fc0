-- The entries below k are the codes and the others as before, and the values from k on lead from what is there now to what all values give.
use Rattle.std.proofs.Common.{◌≡◌, ◌||◌, ◌++◌, map, take, drop}
use Rattle.vector_set.specs.Sets.{Words}
use Rattle.vcpu_allow.specs.Values.{value_code, permitted_all, some_nameable}
use Rattle.vcpu_allow.proofs.permit_all.Given as goal

abbrev pub invariant-loop-k : goal.invariant-loop-k
invariant-loop-k l = record {
  codes : l.codes ≡ take l.k (map value_code l.values) ++ drop l.k l.initial.codes;
  words : Words l.set;
  left : permitted_all (drop l.k l.values) l.set ≡ permitted_all l.values l.initial.set;
  some : (l.accepts || some_nameable (drop l.k l.values)) ≡ some_nameable l.values;
}
