use Rattle.row_store.proofs.EntryLemmas.{rises}
use Rattle.row_store.proofs.rows.rows_fit.Goals as goal

pub returns-clause-rise : goal.returns-clause-rise
returns-clause-rise c = rises c.args.rows.now.entries c.fits.ensures.rise
