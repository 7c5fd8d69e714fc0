-- Each word is what f gave of the two. Assumes nothing.
use Rattle.std.proofs.Common.{rules, arith, get_or}
use Rattle.vector_set_algebra.proofs.Made.{made_at}
use Rattle.vector_set_algebra.proofs.by_words.Goals as goal

pub returns : goal.returns
returns g c k l =
    made_at _ _ (λ j y. goal.F-post g c.args.f (get_or c.args.a j 0) (get_or c.args.b j 0) y)
    (λ i y q h. search rules) c.from_fn.result 0 8 k c.from_fn.ensures.items.each (omega arith) l
