-- What the owned call for the ready ids asks for and answers. Assumes nothing.
pub mod Ready
