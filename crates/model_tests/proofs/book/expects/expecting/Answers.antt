use Rattle.model_tests.proofs.Helped.{expect_goes_on, helped_grows}
use Rattle.model_tests.proofs.book.expects.expecting.Goals as goal

pub returns-clause-held : goal.returns-clause-held
returns-clause-held g c = (expect_goes_on c.args.place c.args.want c.args.moment _ _ c.expect.result c.expect.ensures.says).held

pub returns-clause-spare : goal.returns-clause-spare
returns-clause-spare g c = (expect_goes_on c.args.place c.args.want c.args.moment _ _ c.expect.result c.expect.ensures.says).spare

pub returns-clause-helped : goal.returns-clause-helped
returns-clause-helped g c =
    λ id h. helped_grows _ _ id (expect_goes_on c.args.place c.args.want c.args.moment _ _ c.expect.result c.expect.ensures.says).front h

pub returns-clause-sizes : goal.returns-clause-sizes
returns-clause-sizes g c = (expect_goes_on c.args.place c.args.want c.args.moment _ _ c.expect.result c.expect.ensures.says).sizes
