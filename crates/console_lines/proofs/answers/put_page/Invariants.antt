-- What is left in the iterator is what is left of the page.
use Rattle.std.proofs.Common.{◌≡◌, ◌+◌, length, drop}
use Rattle.std.specs.Slice.Iter.{chunks_rest, chunks_size}
use Rattle.console.specs.Filling.{Adds}
use Rattle.console_lines.specs.Lines.{cells_below}
use Rattle.console_lines.proofs.answers.put_page.Given as goal

abbrev pub invariant-loop-part : goal.invariant-loop-part
invariant-loop-part l = record {
  size : chunks_size l.part-iterator ≡ 8;
  long : l.first + length (chunks_rest l.part-iterator) ≡ length l.page;
  rest : chunks_rest l.part-iterator ≡ drop l.first l.page;
  told : Adds (cells_below l.first l.page) l.initial.out l.out;
}
