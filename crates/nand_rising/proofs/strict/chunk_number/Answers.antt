use Rattle.std.proofs.Common.{arith}
use Rattle.nand_rising.proofs.ShapeLemmas.{chunk_fits}
use Rattle.nand_rising.proofs.strict.chunk_number.Goals as goal

pub overflow_mul-result : goal.overflow_mul-result
overflow_mul-result c = let fits = chunk_fits c.args.shape c.args.page c.args.chunk c.requires.served c.requires.page c.requires.chunk in omega arith

pub overflow_add-result : goal.overflow_add-result
overflow_add-result c = let fits = chunk_fits c.args.shape c.args.page c.args.chunk c.requires.served c.requires.page c.requires.chunk in omega arith

pub returns-clause-within : goal.returns-clause-within
returns-clause-within c = chunk_fits c.args.shape c.args.page c.args.chunk c.requires.served c.requires.page c.requires.chunk
