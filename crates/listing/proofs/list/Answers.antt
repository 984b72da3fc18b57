-- `listing::list` meets its contract where the listing is put.
use Rattle.listing.proofs.Listing.{lists-done}
use Rattle.listing.proofs.list.Goals as goal

pub returns : goal.returns
returns c =
    let a = c.args in
    lists-done a.words.now a.count a.answer a.out.now (c.is_sound.ensures.only c.if-not-is_sound.false) (c.fits_in.ensures.only c.if-not-fits_in.false) c.put.ensures
