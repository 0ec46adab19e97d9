-- What a lent call that gives nothing is told as. Assumes nothing.
pub mod Numbers
