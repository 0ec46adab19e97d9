-- Laws of the records in an image and of their places. Assumes nothing.
pub mod RecordRows
pub mod Steps
