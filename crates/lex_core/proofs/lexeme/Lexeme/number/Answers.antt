use Rattle.std.proofs.Common.{arith}
use Rattle.lex_core.proofs.FormLemmas.{number_digits, number_bound}
use Rattle.lex_core.proofs.lexeme.Lexeme.number.Goals as goal

pub spelled-requires-clause-digits : goal.spelled-requires-clause-digits
spelled-requires-clause-digits c =
    let shape = number_digits c.args.self.now.kind c.args.self.now.text.now c.in-Number.is c.requires.form in
    shape.body

pub spelled-requires-clause-fits : goal.spelled-requires-clause-fits
spelled-requires-clause-fits c =
    let shape = number_digits c.args.self.now.kind c.args.self.now.text.now c.in-Number.is c.requires.form in
    omega (arith, number_bound c.args.self.now.text.now shape)

pub overflow_cast-result : goal.overflow_cast-result
overflow_cast-result c =
    let shape = number_digits c.args.self.now.kind c.args.self.now.text.now c.in-Number.is c.requires.form in
    omega (arith, number_bound c.args.self.now.text.now shape, c.spelled.ensures.small)

pub returns-in-Number-clause-small : goal.returns-in-Number-clause-small
returns-in-Number-clause-small c =
    let shape = number_digits c.args.self.now.kind c.args.self.now.text.now c.in-Number.is c.requires.form in
    omega (arith, number_bound c.args.self.now.text.now shape, c.spelled.ensures.small)
