-- The tests before many streams are let wait pass on the words of a queue; taking and marking the ready ids in one walk. Assumes nothing.
pub mod Own
pub mod Takes
